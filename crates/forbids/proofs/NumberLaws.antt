-- Forbids that are lent as numbers, three for each: the one at a place, how many there are, the first refusal from a place on, and that the call comes
-- to what it comes to with the forbids themselves.
-- Follows docs/RULES.md, "Refusals". Assumes nothing.
use mathlib.Core.Bool.{Bool, cond}
use mathlib.Core.List.{List, ◌∷◌, ◌++◌, []}
use mathlib.Core.Path.{◌≡◌, refl, sym, ◌∙◌, ap}
use Prim.Native.Nat.{ℕ, suc, ◌+◌, ◌*◌, ◌/◌, ◌%◌, ◌≤◌, ◌<◌}
use native.Mathlib.Omega.{arith}
use lib.ListN.{length, get_or, drop, length-drop}
use lib.Seq.{drop-drop, get_or-drop}
use borrow.Author.Tests.{eq-eqb, ne_eqb}
use Rattle.refusals.specs.Refusals.{first_of}
use Rattle.adjacency.specs.Tables.{Table}
use Rattle.grid.specs.Grid.{Grid}
use Rattle.forbids.specs.declared.Forbid.{Forbid}
use Rattle.forbids.specs.Forbids.{place_tests, forbid_tests, forbids_of, records_in}
use Rattle.forbids.proofs.ForbidLaws.{refused-here, passed-on}

-- the forbid at place i
abbrev pub forbid_at : List ℕ → ℕ → Forbid
forbid_at ns i = record { cell = get_or ns (3 * i) 0; pattern = get_or ns (3 * i + 1) 0; keep = get_or ns (3 * i + 2) 0 }

-- those from place i on
abbrev pub forbids_from : List ℕ → ℕ → List Forbid
forbids_from ns i = forbids_of (drop (3 * i) ns)

-- a forbid in front of the rest
forbids-front : (ns : List ℕ) → 3 ≤ length ns → forbids_of ns ≡ record { cell = get_or ns 0 0; pattern = get_or ns 1 0; keep = get_or ns 2 0 } ∷ forbids_of (drop 3 ns)
unfolding forbids_of
forbids-front [] h = absurd (omega arith)
forbids-front (c ∷ []) h = absurd (omega arith)
forbids-front (c ∷ p ∷ []) h = absurd (omega arith)
forbids-front (c ∷ p ∷ k ∷ ns) h = refl

pub forbids-short : (ns : List ℕ) → length ns < 3 → forbids_of ns ≡ []
unfolding forbids_of
forbids-short [] h = refl
forbids-short (c ∷ []) h = refl
forbids-short (c ∷ p ∷ []) h = refl
forbids-short (c ∷ p ∷ k ∷ ns) h = absurd (omega arith)

pub forbids_more : (ns : List ℕ) (i : ℕ) → i < length ns / 3 → forbids_from ns i ≡ forbid_at ns i ∷ forbids_from ns (suc i)
forbids_more ns i h =
    forbids-front (drop (3 * i) ns) (omega (arith, length-drop (3 * i) ns))
    ∙ (λ j. record { cell = first j; pattern = get_or-drop (3 * i) ns 1 0 j; keep = get_or-drop (3 * i) ns 2 0 j } ∷ forbids_of (rest j))
  where
    first : get_or (drop (3 * i) ns) 0 0 ≡ get_or ns (3 * i) 0
    first =
        let none : 3 * i + 0 ≡ 3 * i = omega arith in
        get_or-drop (3 * i) ns 0 0 ∙ ap (λ (n : ℕ). get_or ns n 0) none

    rest : drop 3 (drop (3 * i) ns) ≡ drop (3 * suc i) ns
    rest =
        let next : 3 * i + 3 ≡ 3 * suc i = omega arith in
        drop-drop 3 (3 * i) ns ∙ ap (λ (n : ℕ). drop n ns) next

pub forbids_none : (ns : List ℕ) (i : ℕ) → length ns / 3 ≤ i → forbids_from ns i ≡ []
forbids_none ns i h = forbids-short (drop (3 * i) ns) (omega (arith, length-drop (3 * i) ns))

-- three numbers before others
pub forbids-chunk : (ns f rest : List ℕ) → ns ≡ f ++ rest → length f ≡ 3
    → forbids_of ns ≡ record { cell = get_or f 0 0; pattern = get_or f 1 0; keep = get_or f 2 0 } ∷ forbids_of rest
unfolding forbids_of
forbids-chunk ns [] rest e h = absurd (omega arith)
forbids-chunk ns (c ∷ []) rest e h = absurd (omega arith)
forbids-chunk ns (c ∷ p ∷ []) rest e h = absurd (omega arith)
forbids-chunk ns (c ∷ p ∷ k ∷ []) rest e h = rw e
forbids-chunk ns (c ∷ p ∷ k ∷ x ∷ l) rest e h = absurd (omega arith)

-- ---- the first refusal

module _ (t : Table) (g : Grid) (ns : List ℕ) where
  -- of those from place i on
  abbrev pub refusal_from : ℕ → ℕ
  refusal_from i = first_of (forbid_tests t g (forbids_from ns i))

  module _ (i : ℕ) (h : i < length ns / 3) {n : ℕ} (e : n ≡ first_of (place_tests t.count g (get_or ns (3 * i) 0) (get_or ns (3 * i + 1) 0))) where
    pub refusal-here : (n ≡ 0 → ⊥) → n ≡ refusal_from i
    refusal-here z = rw (forbids_more ns i h) (refused-here t g (forbid_at ns i) (forbids_from ns (suc i)) e z)

    pub refusal_next : n ≡ 0 → refusal_from i ≡ refusal_from (suc i)
    refusal_next z = rw (forbids_more ns i h) (passed-on t g (forbid_at ns i) (forbids_from ns (suc i)) e z)

  pub refusal-end : (i : ℕ) → length ns / 3 ≤ i → 0 ≡ refusal_from i
  unfolding forbid_tests first_of
  refusal-end i h = sym (ap (λ (fs : List Forbid). first_of (forbid_tests t g fs)) (forbids_none ns i h))

-- ---- how many there are

-- a forbid for each three numbers
pub forbids-length : (ns : List ℕ) → length (forbids_of ns) ≡ length ns / 3
unfolding forbids_of
forbids-length [] = refl
forbids-length (c ∷ []) = refl
forbids-length (c ∷ p ∷ []) = refl
forbids-length (c ∷ p ∷ k ∷ ns) = omega (arith, forbids-length ns)

-- three for each: as many as there are
pub records-three : (ns : List ℕ) → length ns % 3 ≡ 0 → records_in ns ≡ length (forbids_of ns)
unfolding records_in
records-three ns e = ap (λ (b : Bool). cond b (length ns / 3) 4097) (eq-eqb (length ns % 3) 0 e) ∙ sym (forbids-length ns)

-- not three for each: one too many
pub records_misfit : (ns : List ℕ) → (length ns % 3 ≡ 0 → ⊥) → records_in ns ≡ 4097
unfolding records_in
records_misfit ns e = ap (λ (b : Bool). cond b (length ns / 3) 4097) (ne_eqb (length ns % 3) 0 e)

-- the numbers of forbids
pub numbers_of : List Forbid → List ℕ
numbers_of [] = []
numbers_of (f ∷ fs) = f.cell ∷ f.pattern ∷ f.keep ∷ numbers_of fs

-- every list of forbids can be lent so
pub forbids-numbers : (fs : List Forbid) → forbids_of (numbers_of fs) ≡ fs
unfolding forbids_of numbers_of
forbids-numbers [] = refl
forbids-numbers (f ∷ fs) = ap (λ (gs : List Forbid). f ∷ gs) (forbids-numbers fs)

pub numbers-three : (fs : List Forbid) → length (numbers_of fs) ≡ 3 * length fs
unfolding numbers_of
numbers-three [] = refl
numbers-three (f ∷ fs) = omega (arith, numbers-three fs)
