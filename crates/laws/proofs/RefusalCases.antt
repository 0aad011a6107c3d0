-- Computed claims on the refusals of `run`: their order, one fault less in each line, and every length that is asked for.
-- Follows docs/RULES.md, "Refusals". Assumes nothing.
use mathlib.Core.List.{List, [], ◌∷◌, map}
use mathlib.Core.Path.{◌≡◌, refl}
use Prim.Native.Nat.{ℕ}
use lib.Ieee.{binary32, of_bits}
use lib.ListN.{replicate}
use Rattle.refusals.specs.Refusals.{first_of}
use Rattle.adjacency.specs.Tables.{Table, table}
use Rattle.grid.specs.Grid.{Grid, grid}
use Rattle.forbids.specs.declared.Forbid.{Forbid}
use Rattle.course.specs.Called.{Memory, memory, tests_of, run_tests}
use Rattle.forbids.specs.Forbids.{records_in, forbids_of}
use Rattle.consistency.proofs.Cases.{checker}
use Rattle.laws.proofs.Cases.{forbid, keep_only}

-- the number of the refusal, 0 where the call is accepted; the noise words are 0
refusal : Table → List ℕ → Grid → ℕ → List Forbid → Memory → ℕ
unfolding first_of tests_of
refusal t weights g noises fs m = first_of (run_tests (record { table = t; weights = weights; grid = g; noise = replicate noises 0 }) fs m)

-- slices of these lengths
abbrev lengths : ℕ → ℕ → ℕ → ℕ → ℕ → Memory
lengths domains counts pending floats marks =
    memory (replicate domains 7) (replicate counts 7) (replicate pending 7) (replicate floats (of_bits binary32 7)) (replicate marks 7)

-- for two patterns at two cells
abbrev two : Memory
two = lengths 2 16 4 4 5

-- the first offset is not 0, and a pattern's lists disagree
abbrev askew : Table
askew = table 2 (1 ∷ 1 ∷ 2 ∷ 3 ∷ 4 ∷ 5 ∷ 6 ∷ 7 ∷ 8 ∷ []) (0 ∷ 1 ∷ 1 ∷ 1 ∷ 0 ∷ 0 ∷ 0 ∷ 0 ∷ [])

abbrev disagreeing : Table
disagreeing = table 2 (0 ∷ 1 ∷ 2 ∷ 3 ∷ 4 ∷ 5 ∷ 6 ∷ 7 ∷ 8 ∷ []) (0 ∷ 1 ∷ 1 ∷ 1 ∷ 0 ∷ 0 ∷ 0 ∷ 0 ∷ [])

-- the order 3, 1, 2, 5, 4, 6, 7, then 8 before 9 in each record
refusal-order :
    (refusal (table 65 [] []) (1024 ∷ 1 ∷ []) (grid 65 1 4) 0 (forbid 2 2 ∷ []) two ≡ 3)
    × (refusal askew (1024 ∷ 1 ∷ []) (grid 65 1 4) 0 (forbid 2 2 ∷ []) two ≡ 1)
    × (refusal askew (1024 ∷ 1 ∷ []) (grid 2 1 4) 0 (forbid 2 2 ∷ []) two ≡ 2)
    × (refusal askew (1024 ∷ 1 ∷ []) (grid 2 1 0) 0 (forbid 2 2 ∷ []) two ≡ 5)
    × (refusal askew (1024 ∷ 1 ∷ []) (grid 2 1 0) 2 (forbid 2 2 ∷ []) two ≡ 4)
    × (refusal askew (1023 ∷ 1 ∷ []) (grid 2 1 0) 2 (forbid 2 2 ∷ []) two ≡ 6)
    × (refusal disagreeing (1023 ∷ 1 ∷ []) (grid 2 1 0) 2 (forbid 2 2 ∷ []) two ≡ 7)
    × (refusal checker (1023 ∷ 1 ∷ []) (grid 2 1 0) 2 (forbid 2 2 ∷ forbid 2 2 ∷ []) two ≡ 8)
    × (refusal checker (1023 ∷ 1 ∷ []) (grid 2 1 0) 2 (forbid 1 2 ∷ forbid 2 2 ∷ []) two ≡ 9)
    × (refusal checker (1023 ∷ 1 ∷ []) (grid 2 1 0) 2 (forbid 1 1 ∷ forbid 2 2 ∷ []) two ≡ 8)
    × (refusal checker (1023 ∷ 1 ∷ []) (grid 2 1 0) 2 (forbid 1 1 ∷ keep_only 1 2 ∷ []) two ≡ 9)
    × (refusal checker (1023 ∷ 1 ∷ []) (grid 2 1 0) 2 (forbid 1 1 ∷ keep_only 1 1 ∷ []) two ≡ 0)
unfolding refusal
refusal-order = (refl, refl, refl, refl, refl, refl, refl, refl, refl, refl, refl, refl)

-- every length: weights, noise, domains, counts, pending removals, floats and marks
refusal_lengths :
    (map (λ w. refusal checker (replicate w 1) (grid 2 1 0) 2 [] two) (1 ∷ 2 ∷ 3 ∷ []) ≡ 5 ∷ 0 ∷ 5 ∷ [])
    × (map (λ n. refusal checker (1 ∷ 1 ∷ []) (grid 2 1 0) n [] two) (1 ∷ 2 ∷ 3 ∷ []) ≡ 5 ∷ 0 ∷ 5 ∷ [])
    × (map (λ n. refusal checker (1 ∷ 1 ∷ []) (grid 2 1 0) 2 [] (lengths n 16 4 4 5)) (1 ∷ 2 ∷ 3 ∷ []) ≡ 5 ∷ 0 ∷ 5 ∷ [])
    × (map (λ n. refusal checker (1 ∷ 1 ∷ []) (grid 2 1 0) 2 [] (lengths 2 n 4 4 5)) (15 ∷ 16 ∷ 17 ∷ []) ≡ 5 ∷ 0 ∷ 5 ∷ [])
    × (map (λ n. refusal checker (1 ∷ 1 ∷ []) (grid 2 1 0) 2 [] (lengths 2 16 n 4 5)) (3 ∷ 4 ∷ 5 ∷ []) ≡ 5 ∷ 0 ∷ 5 ∷ [])
    × (map (λ n. refusal checker (1 ∷ 1 ∷ []) (grid 2 1 0) 2 [] (lengths 2 16 4 n 5)) (3 ∷ 4 ∷ 5 ∷ []) ≡ 5 ∷ 0 ∷ 5 ∷ [])
    × (map (λ n. refusal checker (1 ∷ 1 ∷ []) (grid 2 1 0) 2 [] (lengths 2 16 4 4 n)) (4 ∷ 5 ∷ 6 ∷ []) ≡ 5 ∷ 0 ∷ 5 ∷ [])
unfolding refusal
refusal_lengths = (refl, refl, refl, refl, refl, refl, refl)

-- 4,096 forbids and no more
refusal-forbids : map (λ n. refusal checker (1 ∷ 1 ∷ []) (grid 2 1 0) 2 (replicate n (forbid 0 0)) two) (4096 ∷ 4097 ∷ []) ≡ 0 ∷ 5 ∷ []
unfolding refusal
refusal-forbids = refl

-- forbids that are lent as so many zeros
refusal_of : ℕ → ℕ
unfolding first_of tests_of records_in forbids_of
refusal_of n =
    first_of (tests_of (records_in (replicate n 0)) (record { table = checker; weights = 1 ∷ 1 ∷ []; grid = grid 2 1 0; noise = replicate 2 0 }) (forbids_of (replicate n 0)) two)

-- three numbers for each, and no number over; 4,096 of them and no more
refusal-numbers : map refusal_of (3 ∷ 4 ∷ 5 ∷ 6 ∷ 12288 ∷ 12291 ∷ []) ≡ 0 ∷ 5 ∷ 5 ∷ 0 ∷ 0 ∷ 5 ∷ []
unfolding refusal_of
refusal-numbers = refl
