-- Laws of forbids: what the refusals leave, one after the other, and the first refusal of one record. Follows docs/RULES.md, "Refusals".
use mathlib.Core.Bool.{Bool, cond}
use mathlib.Core.List.{List, ◌∷◌, ◌++◌, []}
use mathlib.Core.Path.{◌≡◌, sym, ap, ◌∙◌}
use Prim.Native.Nat.{ℕ}
use lib.Dec.{eqb}
use borrow.Author.Tests.{leb-false, eq-eqb, ne_eqb}
use Rattle.refusals.specs.Refusals.{first_of}
use Rattle.adjacency.specs.Tables.{Table}
use Rattle.adjacency.specs.Lookup.{bad_pattern}
use Rattle.grid.specs.Grid.{Grid, cells, bad_cell}
use Rattle.forbids.specs.declared.Forbid.{Forbid}
use Rattle.forbids.specs.Forbids.{Placed, place_tests, forbid_tests}
use Rattle.refusals.proofs.RefusalLaws.{Passed, first-append, first-empty}
use Rattle.grid.proofs.GridLaws.{inside_of}

-- ---- what the refusals leave

-- forbids that nothing refuses are of the table and the grid
pub passed-placed : (t : Table) (g : Grid) (fs : List Forbid) → Passed (forbid_tests t g fs) → Placed t.count (cells g) fs
unfolding forbid_tests bad_pattern
passed-placed t g [] h = tt
passed-placed t g (f ∷ fs) h = (inside_of g f.cell h.0, leb-false t.count f.pattern h.1.0, passed-placed t g fs h.1.1)

-- forbids after others, each inside
pub placed-append : (P n : ℕ) (fs gs : List Forbid) → Placed P n fs → Placed P n gs → Placed P n (fs ++ gs)
placed-append P n [] gs h k = k
placed-append P n (f ∷ fs) gs h k = (h.0, h.1, placed-append P n fs gs h.2 k)

-- and the other way round
pub placed-parts : (P n : ℕ) (fs gs : List Forbid) → Placed P n (fs ++ gs) → Placed P n fs × Placed P n gs
placed-parts P n [] gs h = (tt, h)
placed-parts P n (f ∷ fs) gs h = let (a, b) = placed-parts P n fs gs h.2 in ((h.0, h.1, a), b)

-- ---- the first refusal

-- that of one forbid, for each end of `judge`
pub place_tests-is : (P : ℕ) (g : Grid) (c p : ℕ) {cell pattern : Bool} → bad_cell g c ≡ cell → bad_pattern P p ≡ pattern
    → first_of (place_tests P g c p) ≡ cond cell 8 (cond pattern 9 0)
unfolding place_tests first_of
place_tests-is P g c p a b = rw (a, b)

-- that of a forbid before others, which it decides where it is refused
module _ (t : Table) (g : Grid) (f : Forbid) (fs : List Forbid) {n : ℕ} (e : n ≡ first_of (place_tests t.count g f.cell f.pattern)) where
  first-split : first_of (forbid_tests t g (f ∷ fs)) ≡ cond (eqb n 0) (first_of (forbid_tests t g fs)) n
  unfolding forbid_tests
  first-split =
      first-append (place_tests t.count g f.cell f.pattern) (forbid_tests t g fs)
      ∙ sym (ap (λ (m : ℕ). cond (eqb m 0) (first_of (forbid_tests t g fs)) m) e)

  pub refused-here : (n ≡ 0 → ⊥) → n ≡ first_of (forbid_tests t g (f ∷ fs))
  refused-here z = sym (first-split ∙ ap (λ (b : Bool). cond b (first_of (forbid_tests t g fs)) n) (ne_eqb n 0 z))

  pub passed-on : n ≡ 0 → first_of (forbid_tests t g (f ∷ fs)) ≡ first_of (forbid_tests t g fs)
  passed-on z = first-split ∙ ap (λ (b : Bool). cond b (first_of (forbid_tests t g fs)) n) (eq-eqb n 0 z)

-- of no forbids there is none
pub none-refused : (t : Table) (g : Grid) → 0 ≡ first_of (forbid_tests t g [])
unfolding forbid_tests
none-refused t g = sym first-empty
