-- Propagation of starting domains: its refusals, its answer, and what every lent slice holds after it. Follows docs/RULES.md, "Propagation" and "Refusals".
-- Assumes nothing.
use Rattle.std.specs.Prelude.{Bool, true, false, not, ◌||◌, List, [], ◌∷◌, ℕ, zero, suc, ◌*◌, eqb, length, replicate, Result, Ok, Err}
use Rattle.loops.specs.Tests.{every}
use Rattle.words.specs.Words.{beyond}
use Rattle.refusals.specs.declared.Refusal.{Refusal}
use Rattle.refusals.specs.declared.Refusal.TheVariants.{BadSize, BadWrap, BadCount, BadLength, BadList, Disagree, BadPattern}
use Rattle.refusals.specs.Refusals.{Test, ◌gives◌, first_of, Asked, refused, answer, number}
use Rattle.adjacency.specs.Tables.{Table}
use Rattle.adjacency.specs.Checks.{bad_count, offsets_misfit, bad_list, disagree}
use Rattle.grid.specs.Grid.{Grid, cells, bad_size, bad_wrap}
use Rattle.consistency.specs.Domains.{settled_as}
use Rattle.consistency.specs.Worklist.{State}
use Rattle.consistency.specs.Start.{missing, reduced}
use Rattle.consistency.specs.Forget.{nothing}
use Rattle.starting.specs.declared.Propagated.{Propagated}
use Rattle.starting.specs.declared.Propagated.TheVariants.{Consistent, Contradiction}

-- the work list, from full domains less what the starting domains lack
unfoldable pub reduced_from : Table → Grid → List ℕ → State (Unit {0})
unfolding reduced missing
reduced_from t g D = reduced t g nothing tt (missing t.count 0 D)

-- ---- refusals

-- a lent slice has not its published length: 4P + 1 offsets, a word for each cell, 4P counts and P pending removals for each
unfoldable pub bad_lengths : ℕ → List ℕ → ℕ → ℕ → ℕ → ℕ → Bool
unfolding offsets_misfit
bad_lengths P offsets cells domains counts pending =
    offsets_misfit P offsets || not (eqb domains cells) || not (eqb counts (cells * P * 4)) || not (eqb pending (cells * P))

-- some starting domain has a pattern of P or more
unfoldable pub bad_domains : ℕ → List ℕ → Bool
unfolding every beyond
bad_domains P domains = not (every (λ w. not (beyond P w)) domains)

-- 3, 1, 2, 5, 6, 7, 9; of the work memory only the lengths matter
abbrev pub propagate_tests : Table → Grid → List ℕ → ℕ → ℕ → List Test
propagate_tests t g domains counts pending =
    (bad_count t.count gives BadCount)
    ∷ (bad_size g.width g.height gives BadSize)
    ∷ (bad_wrap g.mode gives BadWrap)
    ∷ (bad_lengths t.count t.offsets (cells g) (length domains) counts pending gives BadLength)
    ∷ (bad_list t gives BadList)
    ∷ (disagree t gives Disagree)
    ∷ (bad_domains t.count domains gives BadPattern)
    ∷ []

-- the number of the first refusal, 0 where the domains are propagated
unfoldable pub propagate_refusal : Table → Grid → List ℕ → ℕ → ℕ → ℕ
unfolding first_of bad_count bad_size bad_wrap bad_lengths bad_list disagree bad_domains
propagate_refusal t g domains counts pending = first_of (propagate_tests t g domains counts pending)

-- ---- the outcome

-- the number, or whether it is a contradiction
unfoldable pub propagated_told : Result Propagated Refusal → Asked Bool
unfolding number
propagated_told (Ok Consistent) = answer false
propagated_told (Ok Contradiction) = answer true
propagated_told (Err r) = refused (number r)

pub record Outcome : Type 0 where
  pub told : Asked Bool
  pub domains : List ℕ
  pub counts : List ℕ
  pub pending : List ℕ

abbrev pub outcome : Asked Bool → List ℕ → List ℕ → List ℕ → Outcome
outcome told domains counts pending = record { told = told; domains = domains; counts = counts; pending = pending }

-- refused, all is as it was; accepted, the domains are what remains or all zero, and work memory is zero
unfoldable pub outcome_at : ℕ → Table → Grid → List ℕ → List ℕ → List ℕ → Outcome
unfolding reduced_from settled_as
outcome_at zero t g domains counts pending =
    outcome (answer (reduced_from t g domains).empty) (settled_as (reduced_from t g domains).domains) (replicate (length counts) 0) (replicate (length pending) 0)
outcome_at (suc n) t g domains counts pending = outcome (refused (suc n)) domains counts pending

-- what a call of `propagate` comes to
unfoldable pub propagate_of : Table → Grid → List ℕ → List ℕ → List ℕ → Outcome
unfolding propagate_refusal outcome_at
propagate_of t g domains counts pending = outcome_at (propagate_refusal t g domains (length counts) (length pending)) t g domains counts pending
