-- A choice that is asked apart from a run. Follows docs/RULES.md, "Run" and "Refusals".
-- Assumes nothing.
use Rattle.std.specs.Prelude.{List, ℕ, zero, suc, ◌%◌, Result, Ok, Err, None, Option}
use Rattle.words.specs.Words.{beyond}
use Rattle.adjacency.specs.Weights.{weight_sum}
use Rattle.adjacency.specs.Checks.{bad_count, weights_misfit, over_weight}
use Rattle.refusals.specs.declared.Refusal.{Refusal}
use Rattle.refusals.specs.Refusals.{Asked, refused, answer, number, checked}
use Rattle.logarithms.specs.Asked.{domain_tests}
use Rattle.choice.specs.Choice.{taken}

-- none without a weighted pattern
unfoldable pub taken_if : ℕ → List ℕ → ℕ → ℕ → Option ℕ
unfolding taken
taken_if zero weights w word = None
taken_if (suc s) weights w word = taken weights w (word % suc s)

unfoldable pub choice_of : List ℕ → ℕ → ℕ → Option ℕ
unfolding taken_if weight_sum
choice_of weights w word = taken_if (weight_sum weights w) weights w word

-- the number or the pattern that an answer tells
unfoldable pub choice_told : Result (Option ℕ) Refusal → Asked (Option ℕ)
unfolding number
choice_told (Ok chosen) = answer chosen
choice_told (Err r) = refused (number r)

-- the choice, where nothing is refused: 3, 5, 4, 9
unfoldable pub choice_asked : ℕ → List ℕ → ℕ → ℕ → Asked (Option ℕ)
unfolding checked choice_of bad_count weights_misfit over_weight beyond
choice_asked P weights w word = checked (domain_tests P weights w) (choice_of weights w word)
