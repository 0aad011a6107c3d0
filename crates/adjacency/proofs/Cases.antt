-- Computed claims on the definitions: both sides of every limit of a table, the order of the refusals, and lists looked up.
-- Follows docs/RULES.md, "Tables" and "Refusals".
-- Assumes nothing.
use mathlib.Core.Bool.{true, false}
use mathlib.Core.List.{List, [], ◌∷◌, ◌++◌}
use mathlib.Core.Path.{◌≡◌, refl}
use Prim.Native.Nat.{ℕ}
use Rattle.adjacency.specs.Tables.{Table, table}
use Rattle.adjacency.specs.Weights.{weight_sum, mask}
use Rattle.adjacency.specs.Checks.{bad_count, table_refusal}
use Rattle.adjacency.specs.Lookup.{list_refusal, list_answer}

-- ---- tables

-- one pattern, beside itself everywhere
abbrev lone : Table
lone = table 1 (0 ∷ 1 ∷ 2 ∷ 3 ∷ 4 ∷ []) (0 ∷ 0 ∷ 0 ∷ 0 ∷ [])

-- "Checker": two patterns, each list holds only the other
abbrev checker : Table
checker = table 2 (0 ∷ 1 ∷ 2 ∷ 3 ∷ 4 ∷ 5 ∷ 6 ∷ 7 ∷ 8 ∷ []) (1 ∷ 1 ∷ 1 ∷ 1 ∷ 0 ∷ 0 ∷ 0 ∷ 0 ∷ [])

-- two patterns, of which 0 never stands north of 1, with these ids for the north list of 0
abbrev under : List ℕ → Table
under north = table 2 (0 ∷ 2 ∷ 4 ∷ 5 ∷ 7 ∷ 8 ∷ 10 ∷ 12 ∷ 14 ∷ []) (north ++ (0 ∷ 1 ∷ 0 ∷ 0 ∷ 1 ∷ 1 ∷ 0 ∷ 1 ∷ 0 ∷ 1 ∷ 0 ∷ 1 ∷ []))

-- the same, but 0 is missing south of 1
abbrev torn : Table
torn = table 2 (0 ∷ 2 ∷ 4 ∷ 5 ∷ 7 ∷ 8 ∷ 10 ∷ 11 ∷ 13 ∷ []) (0 ∷ 1 ∷ 0 ∷ 1 ∷ 0 ∷ 0 ∷ 1 ∷ 1 ∷ 0 ∷ 1 ∷ 1 ∷ 0 ∷ 1 ∷ [])

-- ---- both sides of every limit

count_limits : (bad_count 0 ≡ true) × (bad_count 1 ≡ false) × (bad_count 64 ≡ false) × (bad_count 65 ≡ true)
unfolding bad_count
count_limits = (refl, refl, refl, refl)

accepted : (table_refusal lone (1 ∷ []) ≡ 0) × (table_refusal checker (1 ∷ 1 ∷ []) ≡ 0) × (table_refusal (under (0 ∷ 1 ∷ [])) (0 ∷ 0 ∷ []) ≡ 0)
unfolding table_refusal
accepted = (refl, refl, refl)

weight_limits :
    (table_refusal lone (1024 ∷ []) ≡ 0)
    × (table_refusal lone (1025 ∷ []) ≡ 4)
    × (table_refusal checker (1000 ∷ 24 ∷ []) ≡ 0)
    × (table_refusal checker (1000 ∷ 25 ∷ []) ≡ 4)
    × (table_refusal checker (1 ∷ 4294967295 ∷ []) ≡ 4)
unfolding table_refusal
weight_limits = (refl, refl, refl, refl, refl)

length_limits :
    (table_refusal checker (1 ∷ []) ≡ 5)
    × (table_refusal checker (1 ∷ 1 ∷ 1 ∷ []) ≡ 5)
    × (table_refusal (table 1 (0 ∷ 1 ∷ 2 ∷ 3 ∷ []) (0 ∷ 0 ∷ 0 ∷ [])) (1 ∷ []) ≡ 5)
    × (table_refusal (table 1 (0 ∷ 1 ∷ 2 ∷ 3 ∷ 4 ∷ 5 ∷ []) (0 ∷ 0 ∷ 0 ∷ 0 ∷ 0 ∷ [])) (1 ∷ []) ≡ 5)
unfolding table_refusal
length_limits = (refl, refl, refl, refl)

-- the first offset, an offset that falls, the last offset one short and one long
offset_limits :
    (table_refusal (table 1 (1 ∷ 2 ∷ 3 ∷ 4 ∷ 5 ∷ []) (0 ∷ 0 ∷ 0 ∷ 0 ∷ 0 ∷ [])) (1 ∷ []) ≡ 6)
    × (table_refusal (table 1 (0 ∷ 1 ∷ 3 ∷ 2 ∷ 4 ∷ []) (0 ∷ 0 ∷ 0 ∷ 0 ∷ [])) (1 ∷ []) ≡ 6)
    × (table_refusal (table 1 (0 ∷ 1 ∷ 2 ∷ 3 ∷ 4 ∷ []) (0 ∷ 0 ∷ 0 ∷ 0 ∷ 0 ∷ [])) (1 ∷ []) ≡ 6)
    × (table_refusal (table 1 (0 ∷ 1 ∷ 2 ∷ 3 ∷ 4 ∷ []) (0 ∷ 0 ∷ 0 ∷ [])) (1 ∷ []) ≡ 6)
unfolding table_refusal
offset_limits = (refl, refl, refl, refl)

-- an empty list, equal neighbours, a descent, and an id of P
list_limits :
    (table_refusal (table 1 (0 ∷ 1 ∷ 1 ∷ 2 ∷ 3 ∷ []) (0 ∷ 0 ∷ 0 ∷ [])) (1 ∷ []) ≡ 6)
    × (table_refusal (under (0 ∷ 0 ∷ [])) (1 ∷ 1 ∷ []) ≡ 6)
    × (table_refusal (under (1 ∷ 0 ∷ [])) (1 ∷ 1 ∷ []) ≡ 6)
    × (table_refusal (under (0 ∷ 2 ∷ [])) (1 ∷ 1 ∷ []) ≡ 6)
unfolding table_refusal
list_limits = (refl, refl, refl, refl)

disagreement : table_refusal torn (1 ∷ 1 ∷ []) ≡ 7
unfolding table_refusal
disagreement = refl

-- ---- the order 3, 5, 4, 6, 7: one fault less in each line

refusal-order :
    (table_refusal (table 65 (1 ∷ []) (2 ∷ [])) (1025 ∷ []) ≡ 3)
    × (table_refusal (table 2 (1 ∷ []) (2 ∷ [])) (1025 ∷ []) ≡ 5)
    × (table_refusal (table 2 (1 ∷ 2 ∷ 4 ∷ 5 ∷ 7 ∷ 8 ∷ 10 ∷ 11 ∷ 13 ∷ []) torn.ids) (1025 ∷ 0 ∷ []) ≡ 4)
    × (table_refusal (table 2 (1 ∷ 2 ∷ 4 ∷ 5 ∷ 7 ∷ 8 ∷ 10 ∷ 11 ∷ 13 ∷ []) torn.ids) (1024 ∷ 0 ∷ []) ≡ 6)
    × (table_refusal torn (1024 ∷ 0 ∷ []) ≡ 7)
    × (table_refusal (under (0 ∷ 1 ∷ [])) (1024 ∷ 0 ∷ []) ≡ 0)
unfolding table_refusal
refusal-order = (refl, refl, refl, refl, refl, refl)

-- ---- lists looked up

looked-up :
    (list_answer checker 0 1 ≡ 1 ∷ [])
    × (list_answer checker 1 2 ≡ 0 ∷ [])
    × (list_answer (under (0 ∷ 1 ∷ [])) 0 0 ≡ 0 ∷ 1 ∷ [])
    × (list_answer (under (0 ∷ 1 ∷ [])) 1 0 ≡ 1 ∷ [])
    × (list_answer (under (0 ∷ 1 ∷ [])) 1 3 ≡ 0 ∷ 1 ∷ [])
unfolding list_answer
looked-up = (refl, refl, refl, refl, refl)

-- pattern and direction at their limits, with what is answered beside the number
lookup_limits :
    (list_refusal checker 1 3 ≡ 0)
    × (list_refusal checker 2 3 ≡ 9)
    × (list_refusal checker 1 4 ≡ 11)
    × (list_answer checker 2 3 ≡ [])
    × (list_answer checker 1 4 ≡ [])
    × (list_answer torn 0 0 ≡ [])
unfolding list_refusal list_answer
lookup_limits = (refl, refl, refl, refl, refl, refl)

-- the order 3, 5, 6, 7, 11, 9: one fault less in each line
lookup-order :
    (list_refusal (table 0 (1 ∷ []) (2 ∷ [])) 2 4 ≡ 3)
    × (list_refusal (table 2 (1 ∷ []) (2 ∷ [])) 2 4 ≡ 5)
    × (list_refusal (table 2 (1 ∷ 2 ∷ 4 ∷ 5 ∷ 7 ∷ 8 ∷ 10 ∷ 11 ∷ 13 ∷ []) torn.ids) 2 4 ≡ 6)
    × (list_refusal torn 2 4 ≡ 7)
    × (list_refusal (under (0 ∷ 1 ∷ [])) 2 4 ≡ 11)
    × (list_refusal (under (0 ∷ 1 ∷ [])) 2 3 ≡ 9)
    × (list_refusal (under (0 ∷ 1 ∷ [])) 1 3 ≡ 0)
unfolding list_refusal
lookup-order = (refl, refl, refl, refl, refl, refl, refl)

-- ---- weights

-- the sums over the words of three patterns, and the mask, where the middle one has no weight
weight-sums :
    (weight_sum (5 ∷ 0 ∷ 7 ∷ []) 7 ≡ 12) × (weight_sum (5 ∷ 0 ∷ 7 ∷ []) 3 ≡ 5) × (weight_sum (5 ∷ 0 ∷ 7 ∷ []) 2 ≡ 0) × (mask (5 ∷ 0 ∷ 7 ∷ []) ≡ 5)
unfolding weight_sum mask
weight-sums = (refl, refl, refl, refl)
