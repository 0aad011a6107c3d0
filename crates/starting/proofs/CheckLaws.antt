-- Laws of the refusals of starting domains: what each test that does not hold gives, and what is known where nothing is refused.
-- Follows docs/RULES.md, "Refusals". Assumes nothing.
use mathlib.Core.Bool.{Bool, false, not, cond, ◌||◌}
use mathlib.Core.List.{List}
use mathlib.Core.Path.{◌≡◌}
use Prim.Native.Nat.{ℕ, ◌*◌}
use native.Mathlib.Decide.{dec_lt}
use native.Mathlib.Nat.{mul-pos}
use native.Mathlib.Omega.{arith}
use lib.Dec.{eqb}
use lib.ListN.{length, get_or, get_or-eq_default}
use lib.Pow.{pow_pos}
use borrow.Author.Tests.{eqb-true, not-true, not-false}
use Rattle.loops.specs.Tests.{every}
use Rattle.words.specs.Words.{beyond}
use Rattle.adjacency.specs.Tables.{Table}
use Rattle.adjacency.specs.Checks.{bad_count, offsets_misfit, bad_list, disagree}
use Rattle.grid.specs.Grid.{Grid, cells, bad_size, bad_wrap}
use Rattle.consistency.specs.Domains.{Fit}
use Rattle.propagation.specs.Lent.{Ground}
use Rattle.starting.specs.Given.{Starting}
use Rattle.starting.specs.Propagate.{bad_lengths, bad_domains, propagate_tests, propagate_refusal}
use Rattle.loops.proofs.TestLaws.{T_true, true-T, neither, every-at}
use Rattle.words.proofs.BitLaws.{beyond-false}
use Rattle.refusals.proofs.RefusalLaws.{first-passed}
use Rattle.adjacency.proofs.AcceptedLaws.{counted, accepted_by}
use Rattle.grid.proofs.GridLaws.{sized_of}

-- the refusal by the outcomes of its tests, for each end of `check`
pub propagate_refusal-is : (t : Table) (g : Grid) (D : List ℕ) (counts pending : ℕ) {count size wrap lengths list agreement domains : Bool}
    → bad_count t.count ≡ count → bad_size g.width g.height ≡ size → bad_wrap g.mode ≡ wrap
    → bad_lengths t.count t.offsets (cells g) (length D) counts pending ≡ lengths → bad_list t ≡ list → disagree t ≡ agreement → bad_domains t.count D ≡ domains
    → propagate_refusal t g D counts pending ≡ cond count 3 (cond size 1 (cond wrap 2 (cond lengths 5 (cond list 6 (cond agreement 7 (cond domains 9 0))))))
unfolding propagate_refusal
propagate_refusal-is t g D counts pending a b c d e f h = rw (a, b, c, d, e, f, h)

-- ---- each test that does not hold

pub lengths_facts : (P : ℕ) (offsets : List ℕ) (cells domains counts pending : ℕ) → bad_lengths P offsets cells domains counts pending ≡ false
    → (offsets_misfit P offsets ≡ false) × (domains ≡ cells) × (counts ≡ cells * P * 4) × (pending ≡ cells * P)
unfolding bad_lengths
lengths_facts P offsets cells domains counts pending e =
    let (rest, tall) = neither (offsets_misfit P offsets || not (eqb domains cells) || not (eqb counts (cells * P * 4))) (not (eqb pending (cells * P))) e in
    let (more, counted) = neither (offsets_misfit P offsets || not (eqb domains cells)) (not (eqb counts (cells * P * 4))) rest in
    let (long, all) = neither (offsets_misfit P offsets) (not (eqb domains cells)) more in
    (long, eqb-true _ _ (not-false _ all), eqb-true _ _ (not-false _ counted), eqb-true _ _ (not-false _ tall))

pub domains-fit : (P : ℕ) (D : List ℕ) → bad_domains P D ≡ false → Fit P (length D) D
unfolding bad_domains
domains-fit P D e =
    record {
      sized = omega arith;
      words = λ c.
          elim (dec_lt c (length D)) [
            | yes h ↦ beyond-false P (get_or D c 0) (not-true _ (true-T _ (every-at (λ w. not (beyond P w)) D (T_true {b = every (λ w. not (beyond P w)) D} (not-false _ e)) c h)))
            | no h ↦ rw (get_or-eq_default D 0 {n = c} (omega arith)) (pow_pos P)
          ];
    }

-- where nothing is refused, the table and the grid are accepted, and the domains and work memory fit
pub not-refused : (t : Table) (g : Grid) (D counts pending : List ℕ) → propagate_refusal t g D (length counts) (length pending) ≡ 0
    → Ground t g (length D) × Starting t.count D counts pending
unfolding propagate_refusal
not-refused t g D counts pending e =
    let (count, (size, (wrap, (lengths, (list, (agree, (domains, _))))))) = first-passed (propagate_tests t g D (length counts) (length pending)) e in
    let (long, all, counts-long, tall) = lengths_facts t.count t.offsets (cells g) (length D) (length counts) (length pending) lengths in
    let (some, few) = counted t.count count in
    let S = sized_of g size wrap in (
      record { accepted = accepted_by t count long list agree; sized = S; all = all },
      record {
        some = some;
        patterns = few;
        one = omega (arith, mul-pos S.tall S.wide);
        cells = omega (arith, S.few);
        fit = domains-fit t.count D domains;
        counted = rw all counts-long;
        tall = rw all tall;
      },
    )
