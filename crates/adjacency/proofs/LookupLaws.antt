-- Laws of looking a list up: the refusal by the outcomes of its tests, what a lookup that is answered gives, and the answer by the refusal.
-- Follows docs/RULES.md, "Tables" and "Refusals".
-- Assumes nothing.
use mathlib.Core.Bool.{Bool, cond}
use mathlib.Core.List.{[]}
use mathlib.Core.Path.{◌≡◌, sym, ◌∙◌}
use Prim.Native.Nat.{ℕ, ◌<◌}
use native.Mathlib.Omega.{arith}
use borrow.Author.Tests.{leb-false, ltb-false, eq-eqb, ne_eqb, le-ltb, lt-leb}
use Rattle.directions.specs.Directions.{bad_direction}
use Rattle.refusals.specs.declared.Refusal.{Refusal}
use Rattle.refusals.specs.Refusals.{number}
use Rattle.adjacency.specs.Tables.{Table, list_of}
use Rattle.adjacency.specs.Checks.{bad_count, offsets_misfit, bad_list, disagree}
use Rattle.adjacency.specs.Lookup.{bad_pattern, list_tests, list_refusal, list_answer}
use Rattle.adjacency.specs.Accepted.{Accepted}
use Rattle.refusals.proofs.RefusalLaws.{first-passed, number-positive}
use Rattle.adjacency.proofs.AcceptedLaws.{accepted_by, accepted_complete}

module _ (t : Table) (p d : ℕ) where
  -- for each end of `list_refusal`
  pub list_refusal-is : {count length list agreement direction pattern : Bool} → bad_count t.count ≡ count
      → offsets_misfit t.count t.offsets ≡ length → bad_list t ≡ list → disagree t ≡ agreement → bad_direction d ≡ direction → bad_pattern t.count p ≡ pattern
      → list_refusal t p d ≡ cond count 3 (cond length 5 (cond list 6 (cond agreement 7 (cond direction 11 (cond pattern 9 0)))))
  unfolding list_refusal
  list_refusal-is a b c e f g = rw (a, b, c, e, f, g)

  -- what is known where nothing is refused
  pub answered : list_refusal t p d ≡ 0 → Accepted t × (p < t.count) × (d < 4)
  unfolding list_refusal bad_direction bad_pattern
  answered e =
      let (a, (b, (c, (f, (direction, (pattern, _)))))) = first-passed (list_tests t p d) e in
      (accepted_by t a b c f, leb-false _ _ pattern, omega (arith, ltb-false 3 d direction))

  pub answers : Accepted t → p < t.count → d < 4 → list_refusal t p d ≡ 0
  unfolding bad_direction bad_pattern
  answers ok hp hd =
      let (a, b, c, e) = accepted_complete t ok in
      list_refusal-is a b c e (le-ltb 3 d (omega arith)) (lt-leb t.count p hp)

  pub list_answer-list : list_refusal t p d ≡ 0 → list_answer t p d ≡ list_of t p d
  unfolding list_answer
  list_answer-list e = rw (eq-eqb _ _ e)

  pub list_answer_none : (r : Refusal) → list_refusal t p d ≡ number r → list_answer t p d ≡ []
  unfolding list_answer
  list_answer_none r e = rw (ne_eqb (list_refusal t p d) 0 (λ z. number-positive r (sym e ∙ z)))
