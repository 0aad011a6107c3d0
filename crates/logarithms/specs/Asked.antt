-- The entropy of a domain asked apart from a run: its refusals, and what the answer tells. Follows docs/RULES.md, "Entropy" and "Refusals".
-- Assumes nothing.
use Rattle.std.specs.Prelude.{List, [], ◌∷◌, ℕ, Float, Result, Ok, Err, Option}
use Rattle.words.specs.Words.{beyond}
use Rattle.refusals.specs.declared.Refusal.{Refusal}
use Rattle.refusals.specs.declared.Refusal.TheVariants.{BadCount, BadWeights, BadLength, BadPattern}
use Rattle.refusals.specs.Refusals.{Test, ◌gives◌, Asked, refused, answer, number, first_of, checked}
use Rattle.adjacency.specs.Checks.{bad_count, weights_misfit, over_weight}
use Rattle.logarithms.specs.Entropy.{entropy_of}

-- the tests of a domain that is asked about: 3, 5, 4, 9
abbrev pub domain_tests : ℕ → List ℕ → ℕ → List Test
domain_tests P weights w =
    (bad_count P gives BadCount) ∷ (weights_misfit P weights gives BadLength) ∷ (over_weight weights gives BadWeights) ∷ (beyond P w gives BadPattern) ∷ []

-- the number of the first refusal, 0 where the domain may be asked about
unfoldable pub domain_refusal : ℕ → List ℕ → ℕ → ℕ
unfolding first_of
domain_refusal P weights w = first_of (domain_tests P weights w)

-- the entropy, where nothing is refused
unfoldable pub entropy_asked : ℕ → List ℕ → ℕ → Asked (Option Float)
unfolding checked bad_count weights_misfit over_weight beyond entropy_of
entropy_asked P weights w = checked (domain_tests P weights w) (entropy_of weights w)

-- the number or the entropy that an answer tells
unfoldable pub entropy_told : Result (Option Float) Refusal → Asked (Option Float)
unfolding number
entropy_told (Ok entropy) = answer entropy
entropy_told (Err r) = refused (number r)
