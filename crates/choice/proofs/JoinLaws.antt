-- Laws of the best of some cells: where no note that counts has a NaN for its entropy, `join` is associative, so the best of a range is the join of the bests of its parts;
-- it is a cell of the range with its own note, and depends on the cells of the range alone. Follows docs/RULES.md, "Run".
-- Assumes nothing.
use mathlib.Core.Bool.{Bool, true, false, cond}
use mathlib.Core.Path.{◌≡◌, refl, sym, ap, ◌∙◌}
use Prim.Native.Nat.{ℕ, zero, suc, ◌+◌, ◌≤◌, ◌<◌}
use native.Mathlib.Nat.{add-suc, add-zero, add_assoc}
use native.Mathlib.Omega.{arith}
use lib.ListN.{length, get_or, get_or-eq_default}
use Rattle.order.specs.Numbers.{Number}
use Rattle.notes.specs.declared.inner.Note.{Note}
use Rattle.choice.specs.Observer.{Notes, valid, note_at, counts_at, better_than, Best, At, Empty, join, candidate, best_in}
use Rattle.order.proofs.BeatLaws.{beats_transitive, beats_cotransitive}
use Rattle.choice.proofs.ObserverLaws.{Ordered, join-empty}

-- ---- two cells

module _ (c : ℕ) (n : Note) (d : ℕ) (m : Note) where
  join-later : better_than m n ≡ true → join (At c n) (At d m) ≡ At d m
  unfolding join
  join-later e = ap (λ t. cond t (At d m) (At c n)) e

  join-earlier : better_than m n ≡ false → join (At c n) (At d m) ≡ At c n
  unfolding join
  join-earlier e = ap (λ t. cond t (At d m) (At c n)) e

empty-join : (b : Best) → join Empty b ≡ b
unfolding join
empty-join b = refl

-- what holds of both holds of their join
join-keeps : (P : Best → Type 0) (a b : Best) → P a → P b → P (join a b)
unfolding join
join-keeps P Empty b p q = q
join-keeps P (At c n) Empty p q = p
join-keeps P (At c n) (At d m) p q = go (better_than m n)
  where
    go : (t : Bool) → P (cond t (At d m) (At c n))
    go true = q
    go false = p

-- none, or a cell whose noted entropy is a number
abbrev Proper : Best → Type 0
Proper Empty = Unit {0}
Proper (At c n) = Number n.entropy

pub join_associative : (a b c : Best) → Proper a → Proper b → Proper c → join (join a b) c ≡ join a (join b c)
join_associative Empty b c A B C = ap (λ x. join x c) (empty-join b) ∙ sym (empty-join (join b c))
join_associative (At i x) Empty c A B C = ap (λ b. join b c) (join-empty (At i x)) ∙ ap (join (At i x)) (sym (empty-join c))
join_associative (At i x) (At j y) Empty A B C = join-empty (join (At i x) (At j y)) ∙ ap (join (At i x)) (sym (join-empty (At j y)))
join_associative (At i x) (At j y) (At k z) A B C = go (better_than y x) (better_than z y) refl refl
  where
    go : (s t : Bool) → better_than y x ≡ s → better_than z y ≡ t → join (join (At i x) (At j y)) (At k z) ≡ join (At i x) (join (At j y) (At k z))
    go true true p q =
        rw (join-later i x j y p, join-later j y k z q)
        (sym (join-later i x k z (beats_transitive z.entropy z.noise y.entropy y.noise x.entropy x.noise C B A q p)))
    go true false p q = rw (join-later i x j y p, join-earlier j y k z q) (sym (join-later i x j y p))
    go false true p q = rw (join-earlier i x j y p, join-later j y k z q) refl
    go false false p q =
        rw (join-earlier i x j y p, join-earlier j y k z q)
        (join-earlier i x k z (beats_cotransitive z.entropy z.noise y.entropy y.noise x.entropy x.noise C B A q p) ∙ sym (join-earlier i x j y p))

-- ---- one cell

-- past the last count there is no note
pub candidate-out : (v : Notes) (c : ℕ) → length v.counts ≤ c → candidate v c ≡ Empty
unfolding candidate
candidate-out v c h = ap (λ k. cond (valid k (get_or v.domains c 0) v.mask) (At c (note_at v c)) Empty) (get_or-eq_default v.counts 0 h)

-- ---- a range, in two parts

module _ (v : Notes) (o : Ordered v) where
  candidate_proper : (c : ℕ) → Proper (candidate v c)
  unfolding candidate
  candidate_proper c = go (counts_at v c) refl
    where
      go : (t : Bool) → counts_at v c ≡ t → Proper (cond t (At c (note_at v c)) Empty)
      go true e = o c e
      go false e = tt

  best_in_proper : (i k : ℕ) → Proper (best_in v i k)
  unfolding best_in
  best_in_proper i zero = tt
  best_in_proper i (suc k) = join-keeps Proper (best_in v i k) (candidate v (i + k)) (best_in_proper i k) (candidate_proper (i + k))

  pub best_in-parts : (i j k : ℕ) → best_in v i (j + k) ≡ join (best_in v i j) (best_in v (i + j) k)
  unfolding best_in
  best_in-parts i j zero = ap (best_in v i) (add-zero j) ∙ sym (join-empty (best_in v i j))
  best_in-parts i j (suc k) =
      ap (best_in v i) (add-suc j k)
      ∙ ap (λ b. join b (candidate v (i + (j + k)))) (best_in-parts i j k)
      ∙ ap (λ c. join (join (best_in v i j) (best_in v (i + j) k)) (candidate v c)) (sym (add_assoc i j k))
      ∙ join_associative (best_in v i j) (best_in v (i + j) k) (candidate v (i + j + k)) (best_in_proper i j) (best_in_proper (i + j) k) (candidate_proper (i + j + k))

-- cells past the last count add nothing
pub best_in-out : (v : Notes) (i j k : ℕ) → length v.counts ≤ i + j → best_in v i (j + k) ≡ best_in v i j
unfolding best_in
best_in-out v i j zero h = ap (best_in v i) (add-zero j)
best_in-out v i j (suc k) h =
    ap (best_in v i) (add-suc j k) ∙ ap (join (best_in v i (j + k))) (candidate-out v (i + (j + k)) (omega arith)) ∙ join-empty (best_in v i (j + k)) ∙ best_in-out v i j k h

-- ---- what is found is a cell of the range, with its own note

abbrev pub Own : Notes → ℕ → ℕ → Best → Type 0
Own v i k Empty = Unit {0}
Own v i k (At c n) = (i ≤ c) × (c < i + k) × (n ≡ note_at v c)

own-wider : (v : Notes) (i k : ℕ) (b : Best) → Own v i k b → Own v i (suc k) b
own-wider v i k Empty h = tt
own-wider v i k (At c n) h = (h.0, omega (arith, h.1), h.2)

candidate-own : (v : Notes) (i k : ℕ) → Own v i (suc k) (candidate v (i + k))
unfolding candidate
candidate-own v i k = go (counts_at v (i + k))
  where
    go : (t : Bool) → Own v i (suc k) (cond t (At (i + k) (note_at v (i + k))) Empty)
    go true = (omega arith, omega arith, refl)
    go false = tt

pub best_in-own : (v : Notes) (i k : ℕ) → Own v i k (best_in v i k)
unfolding best_in
best_in-own v i zero = tt
best_in-own v i (suc k) =
    join-keeps (Own v i (suc k)) (best_in v i k) (candidate v (i + k)) (own-wider v i k (best_in v i k) (best_in-own v i k)) (candidate-own v i k)

-- ---- it depends on the cells of the range alone

pub best_in_same : (v w : Notes) (i k : ℕ) → ((c : ℕ) → i ≤ c → c < i + k → candidate v c ≡ candidate w c) → best_in v i k ≡ best_in w i k
unfolding best_in
best_in_same v w i zero f = refl
best_in_same v w i (suc k) f =
    ap (λ b. join b (candidate v (i + k))) (best_in_same v w i k (λ c p q. f c p (omega arith))) ∙ ap (join (best_in w i k)) (f (i + k) (omega arith) (omega arith))
