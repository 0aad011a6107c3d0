-- Laws of domains: a pattern that is removed, all patterns, subsets, and when a cell is empty. Follows docs/RULES.md, "Domains".
-- Assumes nothing.
use mathlib.Core.Bool.{Bool, true, false, ◌||◌, or_assoc, or_comm, false≢true}
use mathlib.Core.List.{List, [], ◌∷◌}
use mathlib.Core.Path.{◌≡◌, refl, ap, ◌∙◌}
use Prim.Native.Nat.{ℕ, zero, suc, ◌≤◌, ◌<◌}
use native.Mathlib.Decide.{ℕ_discrete, dec_lt}
use native.Mathlib.Omega.{arith}
use lib.Dec.{eqb}
use lib.ListN.{length, get_or, replicate, length-set, length-replicate, get_or-replicate, get_or-eq_default}
use lib.Pow.{pow_pos, pow_mono}
use lib.Seq.{get_or-set_other, ext_get_or}
use borrow.Author.Tests.{eq-eqb, ne_eqb}
use Rattle.words.specs.Words.{bit, without, full}
use Rattle.consistency.specs.Domains.{possible, removed, filled, Fit, Sub, emptied, settled_as}
use Rattle.words.proofs.BitLaws.{bit-lt, bit_le, bit_not, bit_none, bit_below, bit-full, full-lt, word-ext}
use Rattle.words.proofs.ChangeLaws.{bit-without, bit-without_other, without-le}

-- ---- a pattern is removed

get_or-removed : (D : List ℕ) (c p : ℕ) → get_or (removed D c p) c 0 ≡ without (get_or D c 0) p
get_or-removed [] c p = omega (arith, without-le 0 p)
get_or-removed (w ∷ D) zero p = refl
get_or-removed (w ∷ D) (suc c) p = get_or-removed D c p

-- it is possible no more
pub possible-removed : (D : List ℕ) (c p : ℕ) → possible (removed D c p) c p ≡ 0
possible-removed D c p = ap (λ (w : ℕ). bit w p) (get_or-removed D c p) ∙ bit-without (get_or D c 0) p

-- and all else stays
pub possible-removed_other : (D : List ℕ) (c p m r : ℕ) → (m ≡ c → r ≡ p → ⊥) → possible (removed D c p) m r ≡ possible D m r
possible-removed_other D c p m r f =
    elim (ℕ_discrete m c) [
      | yes e ↦ rw e (ap (λ (w : ℕ). bit w r) (get_or-removed D c p) ∙ bit-without_other (get_or D c 0) p r (f e))
      | no e ↦ ap (λ (w : ℕ). bit w r) (get_or-set_other D c m (without (get_or D c 0) p) 0 e)
    ]

pub fit-removed : {P n : ℕ} {D : List ℕ} → Fit P n D → (c p : ℕ) → Fit P n (removed D c p)
fit-removed {P} {n} {D} F c p =
    record {
      sized = length-set D c (without (get_or D c 0) p) ∙ F.sized;
      words = λ m.
          elim (ℕ_discrete m c) [
            | yes e ↦ rw e (omega (arith, get_or-removed D c p, without-le (get_or D c 0) p, F.words c))
            | no e ↦ rw (get_or-set_other D c m (without (get_or D c 0) p) 0 e) (F.words m)
          ];
    }

-- ---- domains that fit

module _ {P n : ℕ} {D : List ℕ} (F : Fit P n D) (c p : ℕ) (h : possible D c p ≡ 1) where
  -- what is possible is of the P patterns
  pub pattern-below : p < P
  pattern-below = bit_below (get_or D c 0) P p (F.words c) h

  -- and at one of the n cells
  pub cell_below : c < n
  cell_below =
      elim (dec_lt c n) [
        | yes k ↦ k
        | no k ↦ absurd (omega (arith, bit_le (get_or D c 0) p h, get_or-eq_default D 0 {n = c} (omega (arith, F.sized)), pow_pos p))
      ]

-- ---- subsets

-- a subset, by 0 and 1
pub sub-le : (D E : List ℕ) → Sub D E → (c p : ℕ) → possible D c p ≤ possible E c p
sub-le D E h c p = elim (ℕ_discrete (possible D c p) 1) [ yes e ↦ omega (arith, h c p e) | no e ↦ omega (arith, bit_not (get_or D c 0) p e) ]

pub le-sub : (D E : List ℕ) → ((c p : ℕ) → possible D c p ≤ possible E c p) → Sub D E
le-sub D E h c p e = omega (arith, h c p, bit-lt (get_or E c 0) p)

-- domains with the same patterns are the same
pub sub_antisym : {P n : ℕ} {D E : List ℕ} → Fit P n D → Fit P n E → Sub D E → Sub E D → D ≡ E
sub_antisym {P} {n} {D} {E} F G h k =
    ext_get_or 0 D E (omega (arith, F.sized, G.sized))
    (λ c _. word-ext P (F.words c) (G.words c) (λ p _. omega (arith, sub-le D E h c p, sub-le E D k c p)))

-- ---- all patterns

pub possible-filled : (P n c p : ℕ) → c < n → p < P → possible (filled P n) c p ≡ 1
possible-filled P n c p hc hp = ap (λ (w : ℕ). bit w p) (get_or-replicate n c (full P) 0 hc) ∙ bit-full P p hp

pub fit-filled : (P n : ℕ) → Fit P n (filled P n)
fit-filled P n =
    record {
      sized = length-replicate n (full P);
      words = λ c.
          elim (dec_lt c n) [
            | yes h ↦ omega (arith, get_or-replicate n c (full P) 0 h, full-lt P)
            | no h ↦ omega (arith, get_or-eq_default (filled P n) 0 {n = c} (omega (arith, length-replicate n (full P))), pow_pos P)
          ];
    }

pub sub-filled : {P n : ℕ} {D : List ℕ} → Fit P n D → Sub D (filled P n)
sub-filled {P} {n} F c p h = possible-filled P n c p (cell_below F c p h) (pattern-below F c p h)

-- ---- empty cells

-- which cell is empty, and back
pub emptied-at : (D : List ℕ) → emptied D ≡ true → (c : ℕ) × (c < length D) × (get_or D c 0 ≡ 0)
unfolding emptied
emptied-at [] e = absurd (false≢true e)
emptied-at (w ∷ D) e =
    elim (ℕ_discrete w 0) [
      | yes z ↦ (0, omega arith, z)
      | no z ↦ let (c, h, k) = emptied-at D (rw (ne_eqb w 0 z) at e) in (suc c, omega arith, k)
    ]

pub at-emptied : (D : List ℕ) (c : ℕ) → c < length D → get_or D c 0 ≡ 0 → emptied D ≡ true
unfolding emptied
at-emptied [] c h e = absurd (omega arith)
at-emptied (w ∷ D) zero h e = rw (eq-eqb w 0 e)
at-emptied (w ∷ D) (suc c) h e = elim (ℕ_discrete w 0) [ yes z ↦ rw (eq-eqb w 0 z) | no z ↦ rw (ne_eqb w 0 z) (at-emptied D c (omega arith) e) ]

-- a removal empties a cell where it leaves an empty word
pub emptied-removed : (D : List ℕ) (c p : ℕ) → c < length D → (emptied D || eqb (without (get_or D c 0) p) 0) ≡ emptied (removed D c p)
unfolding emptied
emptied-removed [] c p h = absurd (omega arith)
emptied-removed (w ∷ D) zero p h =
    elim (ℕ_discrete w 0) [
      | yes z ↦ rw (eq-eqb w 0 z, eq-eqb (without w p) 0 (omega (arith, without-le w p)))
      | no z ↦ rw (ne_eqb w 0 z) (or_comm (emptied D) (eqb (without w p) 0))
    ]
emptied-removed (w ∷ D) (suc c) p h =
    or_assoc (eqb w 0) (emptied D) (eqb (without (get_or D c 0) p) 0) ∙ ap (λ (b : Bool). eqb w 0 || b) (emptied-removed D c p (omega arith))

-- no cell is empty where there is a pattern
pub emptied-filled : (P n : ℕ) → 1 ≤ P → emptied (filled P n) ≡ false
unfolding emptied full
emptied-filled P zero h = refl
emptied-filled P (suc n) h = rw (ne_eqb (full P) 0 (λ e. omega (arith, pow_mono {i = 1} {j = P} h))) (emptied-filled P n h)

-- a cell that is empty is empty in every subset
pub emptied-sub : {P n : ℕ} {D E : List ℕ} → Fit P n D → Fit P n E → Sub D E → emptied E ≡ true → emptied D ≡ true
emptied-sub {P} {n} {D} {E} F G h e =
    let (c, k, z) = emptied-at E e in
    at-emptied D c (omega (arith, F.sized, G.sized))
    (word-ext P (F.words c) (pow_pos P) (λ p _. omega (arith, sub-le D E h c p, ap (λ (w : ℕ). bit w p) z, bit_none p)))

-- ---- what is written of domains

-- every cell is empty where one is, and else nothing changes
pub settled-empty : (D : List ℕ) → emptied D ≡ true → settled_as D ≡ replicate (length D) 0
unfolding settled_as
settled-empty D e = rw e

pub settled-whole : (D : List ℕ) → emptied D ≡ false → settled_as D ≡ D
unfolding settled_as
settled-whole D e = rw e

none_at : (n c : ℕ) → get_or {A = ℕ} (replicate n 0) c 0 ≡ 0
none_at zero c = refl
none_at (suc n) zero = refl
none_at (suc n) (suc c) = none_at n c

pub possible_none : (n c p : ℕ) → possible (replicate n 0) c p ≡ 0
possible_none n c p = ap (λ (w : ℕ). bit w p) (none_at n c) ∙ bit_none p

-- it is a subset, and grows with the domains
pub settled-below : (D : List ℕ) → Sub (settled_as D) D
settled-below D c p h = go (emptied D) refl
  where
    go : (b : Bool) → emptied D ≡ b → possible D c p ≡ 1
    go true e = absurd (omega (arith, possible_none (length D) c p, rw (settled-empty D e) at h))
    go false e = rw (settled-whole D e) at h

pub sub-settled : {P n : ℕ} {D E : List ℕ} → Fit P n D → Fit P n E → Sub D E → Sub (settled_as D) (settled_as E)
sub-settled {P} {n} {D} {E} F G h c p k = go (emptied E) refl
  where
    go : (b : Bool) → emptied E ≡ b → possible (settled_as E) c p ≡ 1
    go true e = absurd (omega (arith, possible_none (length D) c p, rw (settled-empty D (emptied-sub F G h e)) at k))
    go false e = rw (settled-whole E e) (h c p (settled-below D c p k))

pub fit-settled : {P n : ℕ} {D : List ℕ} → Fit P n D → Fit P n (settled_as D)
fit-settled {P} {n} {D} F = go (emptied D) refl
  where
    go : (b : Bool) → emptied D ≡ b → Fit P n (settled_as D)
    go true e = rw (settled-empty D e) (record { sized = length-replicate (length D) 0 ∙ F.sized; words = λ c. rw (none_at (length D) c) (pow_pos P) })
    go false e = rw (settled-whole D e) F
