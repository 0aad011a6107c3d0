-- No note's count is below the weighted count of its cell, at any state that a run reaches; and such a count, where it does not count, counts for no part of
-- the cell's word. Follows docs/RULES.md, "Run". Assumes nothing.
use mathlib.Core.Bool.{Bool, true, false, cond, true≢false}
use mathlib.Core.List.{List, [], ◌∷◌}
use mathlib.Core.Path.{◌≡◌, refl, sym, ◌∙◌, subst}
use Prim.Native.Nat.{ℕ, zero, suc, ◌+◌, ◌-◌, ◌*◌, ◌^◌, ◌≤◌, ◌<◌}
use native.Mathlib.Decide.{ℕ_discrete}
use native.Mathlib.Nat.{le_refl, mul-le-mul}
use native.Mathlib.Omega.{arith}
use lib.Bits.{bit_and}
use lib.Dec.{leb}
use lib.Ieee.{Float, nan, lt}
use lib.ListN.{length, get_or, set, take, replicate, length-set, length-append, length-replicate, length-take, get_or-replicate, get_or-append}
use lib.Seq.{get_or-set_same, get_or-set_other, get_or-take}
use borrow.Author.Tests.{eq-eqb, ne_eqb, le-leb}
use Rattle.words.specs.Words.{bit, how_many}
use Rattle.adjacency.specs.Weights.{Weighed, weight_of, weight_sum, mask}
use Rattle.grid.specs.Grid.{cells}
use Rattle.logarithms.specs.Entropy.{entropy}
use Rattle.notes.specs.Notes.{note_of, note, lowered}
use Rattle.notes.specs.declared.inner.Note.{Note}
use Rattle.consistency.specs.Domains.{possible, removed, filled}
use Rattle.consistency.specs.Worklist.{Removal, removal, State}
use Rattle.consistency.specs.Start.{start}
use Rattle.consistency.specs.Parts.{removed_all}
use Rattle.notes.specs.Beside.{Beside, weighted_in, lessened_by, lessened, proposes, proposed, written, noted, proposing, kept, unmarked}
use Rattle.choice.specs.Observer.{valid}
use Rattle.forbids.specs.declared.Forbid.{Forbid}
use Rattle.course.specs.Run.{Given, first_count, first_beside, begun}
use Rattle.course.specs.Course.{Reached}
use Rattle.words.proofs.BitLaws.{bit-and, bit-lt}
use Rattle.words.proofs.CountLaws.{many-sub}
use Rattle.consistency.proofs.DomainLaws.{sub-le}
use Rattle.consistency.proofs.RemovedAllLaws.{sub-removed_all}
use Rattle.notes.proofs.BesideLaws.{weighted_64}
use Rattle.choice.proofs.ObserverLaws.{valid-counts}
use Rattle.course.proofs.KeptCourse.{Lasts, holds-reached}

-- ---- weighted counts

-- a part of a word has no more weighted patterns
pub weighted-sub : (k v w m : ℕ) → ((p : ℕ) → bit v p ≤ bit w p) → how_many k (bit_and v m) ≤ how_many k (bit_and w m)
weighted-sub k v w m h = many-sub k (bit_and v m) (bit_and w m) (λ p. rw (bit-and v m p, bit-and w m p) (mul-le-mul (h p) (le_refl (bit m p))))

-- no word has more than there are
weighted-most : (ws : List ℕ) (w : ℕ) → weighted_in ws w ≤ how_many (length ws) (mask ws)
weighted-most ws w = many-sub (length ws) (bit_and w (mask ws)) (mask ws) (λ p. rw (bit-and w (mask ws) p) (at (bit w p) (bit (mask ws) p) (bit-lt w p)))
  where
    at : (a b : ℕ) → a < 2 → a * b ≤ b
    at zero b h = omega arith
    at (suc zero) b h = omega arith
    at (suc (suc a)) b h = absurd (omega arith)

-- a removal leaves a part
pub removed-le : (D : List ℕ) (c p m q : ℕ) → possible (removed D c p) m q ≤ possible D m q
unfolding removed_all
removed-le D c p = sub-le (removed D c p) D (sub-removed_all (removal c p ∷ []) D)

-- ---- no note's count is below the weighted count of its cell

-- two marks for each of n cells, and the count of each note is at least the weighted count of its cell
pub record Above (ws : List ℕ) (n : ℕ) (D : List ℕ) (x : Beside) : Type 0 where
  pub long : length x.marks ≡ 2 * n
  pub above : (c : ℕ) → c < n → (get_or x.marks c 0 ≡ 0 → ⊥) → weighted_in ws (get_or D c 0) ≤ get_or x.marks c 0

-- the count of a proposal is its own or the old one's
proposed-above : (fresh : ℕ) (old : Note) (e : Float) (m b : ℕ) → b ≤ m → ((old.count ≡ 0 → ⊥) → b ≤ old.count) → ((proposed fresh old e m).count ≡ 0 → ⊥)
    → b ≤ (proposed fresh old e m).count
unfolding proposed lowered
proposed-above zero old e m b h k z = h
proposed-above (suc fresh) old e m b h k z = go (lt e old.entropy) z
  where
    go : (t : Bool) → ((cond t (note e old.noise m) old).count ≡ 0 → ⊥) → b ≤ (cond t (note e old.noise m) old).count
    go true z = h
    go false z = k z

module _ (ws : List ℕ) (n : ℕ) where
  above-removed : (u : Removal) (D : List ℕ) (x : Beside) → Above ws n D x → Above ws n (removed D u.cell u.pattern) x
  above-removed u D x A =
      record {
        long = A.long;
        above = λ c h z.
            omega (arith, A.above c h z, weighted-sub (length ws) (get_or (removed D u.cell u.pattern) c 0) (get_or D c 0) (mask ws) (removed-le D u.cell u.pattern c));
      }

  above-lessened : (w c : ℕ) (D : List ℕ) (x : Beside) → Above ws n D x → Above ws n D (lessened_by w c x)
  unfolding lessened_by
  above-lessened zero c D x A = A
  above-lessened (suc w) c D x A = record { long = A.long; above = A.above }

  module _ (noise : List ℕ) (D : List ℕ) (x : Beside) (A : Above ws n D x) where
    above-noted : (c : ℕ) (e : Float) → Above ws n D (noted noise n c e (weighted_in ws (get_or D c 0)) x)
    unfolding noted written
    above-noted c e = record { long = simp length-set A.long; above = λ m h. at m h (ℕ_discrete m c) }
      where
        count : ℕ
        count = (proposed (get_or x.marks (n + c) 0) (note_of noise n c x.floats x.marks) e (weighted_in ws (get_or D c 0))).count

        marks : List ℕ
        marks = set (set x.marks c count) (n + c) 1

        at : (m : ℕ) → m < n → Dec (m ≡ c) → (get_or marks m 0 ≡ 0 → ⊥) → weighted_in ws (get_or D m 0) ≤ get_or marks m 0
        at m h (no z) =
            rw (get_or-set_other (set x.marks c count) (n + c) m 1 0 (λ y. omega (arith, h)) ∙ get_or-set_other x.marks c m count 0 z) (A.above m h)
        at m h (yes z) = subst (λ (j : ℕ). (get_or marks j 0 ≡ 0 → ⊥) → weighted_in ws (get_or D j 0) ≤ get_or marks j 0) (sym z) (here (omega (arith, h, z)))
          where
            here : c < n → (get_or marks c 0 ≡ 0 → ⊥) → weighted_in ws (get_or D c 0) ≤ get_or marks c 0
            here l =
                rw (get_or-set_other (set x.marks c count) (n + c) c 1 0 (λ y. omega (arith, l)) ∙ get_or-set_same x.marks c count 0 (omega (arith, l, A.long)))
                (proposed-above (get_or x.marks (n + c) 0) (note_of noise n c x.floats x.marks) e (weighted_in ws (get_or D c 0)) (weighted_in ws (get_or D c 0)) (le_refl _) (A.above c l))

    above-proposing : (c p : ℕ) → Above ws n D (proposing ws noise n c p (get_or D c 0) x)
    unfolding proposing
    above-proposing c p = go (proposes ws p (get_or D c 0))
      where
        e : Float
        e = entropy (weight_sum ws (get_or D c 0)) (get_or x.floats c nan)

        go : (b : Bool) → Above ws n D (cond b (noted noise n c e (weighted_in ws (get_or D c 0)) x) x)
        go true = above-noted c e
        go false = A

  above_renewed : (D : List ℕ) (x : Beside) → Above ws n D x → Above ws n D (unmarked n x)
  unfolding unmarked
  above_renewed D x A =
      let zeros : List ℕ = replicate (length x.marks - n) 0 in
      record {
        long = omega (arith, A.long, length-append (take n x.marks) zeros, length-take n x.marks, length-replicate {A = ℕ} (length x.marks - n) 0);
        above = λ c h.
            rw (get_or-append (take n x.marks) zeros 0 c (omega (arith, h, A.long, length-take n x.marks)) ∙ get_or-take n x.marks c 0 h) (A.above c h);
      }

  first_above : (w : ℕ) → (first_count ws ≡ 0 → ⊥) → weighted_in ws w ≤ first_count ws
  unfolding first_count
  first_above w = go (leb 2 (how_many (length ws) (mask ws)))
    where
      go : (b : Bool) → (cond b (how_many (length ws) (mask ws)) 0 ≡ 0 → ⊥) → weighted_in ws w ≤ cond b (how_many (length ws) (mask ws)) 0
      go true z = weighted-most ws w
      go false z = absurd (z refl)

  above-first : (D : List ℕ) → Above ws n D (first_beside n ws)
  unfolding first_beside
  above-first D =
      let counts = replicate n (first_count ws) in
      let zeros : List ℕ = replicate n 0 in
      record {
        long = omega (arith, length-append counts zeros, length-replicate {A = ℕ} n (first_count ws), length-replicate {A = ℕ} n 0);
        above = λ c h.
            rw (get_or-append counts zeros 0 c (omega (arith, h, length-replicate {A = ℕ} n (first_count ws))) ∙ get_or-replicate n c (first_count ws) 0 h)
            (first_above (get_or D c 0));
      }

above-lasts : (i : Given) → Lasts i (Above i.weights (cells i.grid))
unfolding lessened kept
above-lasts i =
    let ws = i.weights in
    let n = cells i.grid in
    record {
      asked = λ u D x A. above-lessened ws n (weight_of ws u.pattern) u.cell _ x (above-removed ws n u D x A);
      following = λ u D x A.
          above-proposing ws n i.noise (removed D u.cell u.pattern) _
          (above-lessened ws n (weight_of ws u.pattern) u.cell _ x (above-removed ws n u D x A)) u.cell u.pattern;
      renewed = above_renewed ws n;
    }

-- at every state that a run reaches
pub reached-above : (i : Given) {fs : List Forbid} {words : List ℕ} {k used : ℕ} {s : State Beside} → Reached i fs words k used s
    → Above i.weights (cells i.grid) s.domains s.beside
unfolding begun start
reached-above i r =
    holds-reached i (Above i.weights (cells i.grid)) (above-lasts i) (above-first i.weights (cells i.grid) (filled i.table.count (cells i.grid))) r

-- ---- an old note

valid_of : (count w m : ℕ) → (count ≡ 0 → ⊥) → how_many 64 (bit_and w m) ≡ count → 2 ≤ how_many 64 w → valid count w m ≡ true
unfolding valid
valid_of count w m a b c = rw (ne_eqb count 0 a, eq-eqb (how_many 64 (bit_and w m)) count b, le-leb 2 (how_many 64 w) c)

-- a count that is not below the weighted count of a word, and does not count there, counts for no part of it
pub stale : {P : ℕ} {ws : List ℕ} → Weighed P ws → P ≤ 64 → (count v w : ℕ) → w < 2 ^ P → ((p : ℕ) → bit v p ≤ bit w p) → ((count ≡ 0 → ⊥) → weighted_in ws w ≤ count)
    → valid count w (mask ws) ≡ false → valid count v (mask ws) ≡ false
stale {P} {ws} W few count v w l part above f = go (valid count v (mask ws)) refl
  where
    go : (b : Bool) → valid count v (mask ws) ≡ b → valid count v (mask ws) ≡ false
    go false e = e
    go true e =
        let C = valid-counts count v (mask ws) e in
        absurd
        (true≢false
        (sym
        (valid_of count w (mask ws) C.noted (omega (arith, C.weighted, above C.noted, weighted_64 W few w l, weighted-sub 64 v w (mask ws) part))
        (omega (arith, C.several, many-sub 64 v w part)))
        ∙ f))
