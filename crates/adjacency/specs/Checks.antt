-- When a table is refused. Follows docs/RULES.md, "Refusals".
-- Assumes nothing.
use Rattle.std.specs.Prelude.{Bool, true, false, not, ◌&&◌, ◌||◌, List, [], ◌∷◌, ℕ, ◌+◌, ◌*◌, ◌/◌, ◌%◌, leb, ltb, eqb, length, get_or}
use Rattle.loops.specs.Tests.{all_to, every, elem}
use Rattle.directions.specs.Directions.{opposite}
use Rattle.refusals.specs.declared.Refusal.TheVariants.{BadCount, BadWeights, BadLength, BadList, Disagree}
use Rattle.refusals.specs.Refusals.{Test, ◌gives◌, first_of}
use Rattle.adjacency.specs.Tables.{Table, list_at, list_of}
use Rattle.adjacency.specs.Weights.{whole_weight}

-- there is no pattern, or there are over 64
unfoldable pub bad_count : ℕ → Bool
bad_count P = eqb P 0 || ltb 64 P

-- the offsets are not 4P + 1
unfoldable pub offsets_misfit : ℕ → List ℕ → Bool
offsets_misfit P offsets = not (eqb (length offsets) (4 * P + 1))

-- the weights are not P
unfoldable pub weights_misfit : ℕ → List ℕ → Bool
weights_misfit P weights = not (eqb (length weights) P)

-- the sum of the weights is over 1,024
unfoldable pub over_weight : List ℕ → Bool
unfolding whole_weight
over_weight weights = ltb 1024 (whole_weight weights)

-- ---- lists

-- the offset after offset k is no less
abbrev pub rises_at : List ℕ → ℕ → Bool
rises_at offsets k = leb (get_or offsets k 0) (get_or offsets (k + 1) 0)

-- the first offset is 0, no offset falls, and the last is the ids' length
unfoldable pub offsets_ok : Table → Bool
unfolding all_to
offsets_ok t =
    eqb (get_or t.offsets 0 0) 0 && (all_to (4 * t.count) (rises_at t.offsets) && eqb (get_or t.offsets (4 * t.count) 0) (length t.ids))

-- each id is above the one before it, and the last is below P
unfoldable pub rises_below : ℕ → List ℕ → Bool
rises_below P [] = true
rises_below P (x ∷ []) = ltb x P
rises_below P (x ∷ y ∷ l) = ltb x y && rises_below P (y ∷ l)

-- a list is not empty, strictly ascending, and holds no id of P or more
unfoldable pub list_ok : ℕ → List ℕ → Bool
unfolding rises_below
list_ok P [] = false
list_ok P (x ∷ l) = rises_below P (x ∷ l)

-- each list is so
unfoldable pub lists_ok : Table → Bool
unfolding all_to list_ok list_at
lists_ok t = all_to (4 * t.count) (λ k. list_ok t.count (list_at t k))

-- the offsets or a list are not as they must be
unfoldable pub bad_list : Table → Bool
unfolding offsets_ok lists_ok
bad_list t = not (offsets_ok t && lists_ok t)

-- ---- agreement

-- each q in p's list for d has p in its own list for the opposite
unfoldable pub agrees_at : Table → ℕ → ℕ → Bool
unfolding every elem list_of opposite
agrees_at t p d = every (λ q. elem p (list_of t q (opposite d))) (list_of t p d)

-- each list agrees
unfoldable pub agrees : Table → Bool
unfolding all_to agrees_at
agrees t = all_to (4 * t.count) (λ k. agrees_at t (k / 4) (k % 4))

-- two lists disagree
unfoldable pub disagree : Table → Bool
unfolding agrees
disagree t = not (agrees t)

-- ---- the check of a table

-- its tests in their order: 3, 5, 4, 6, 7
abbrev pub table_tests : Table → List ℕ → List Test
table_tests t weights =
    (bad_count t.count gives BadCount)
    ∷ (weights_misfit t.count weights || offsets_misfit t.count t.offsets gives BadLength)
    ∷ (over_weight weights gives BadWeights)
    ∷ (bad_list t gives BadList)
    ∷ (disagree t gives Disagree)
    ∷ []

-- the number of the first refusal of a table with its weights, 0 where it is accepted
unfoldable pub table_refusal : Table → List ℕ → ℕ
unfolding first_of bad_count weights_misfit offsets_misfit over_weight bad_list disagree
table_refusal t weights = first_of (table_tests t weights)
