-- A sheet's lists and the table that is lent: offsets and ids from lists, and lists from offsets and ids. Follows docs/RULES.md, "Tables".
-- Assumes nothing.
use Rattle.std.specs.Prelude.{cond, List, [], ◌∷◌, ◌++◌, ℕ, zero, suc, ◌+◌, ◌*◌, eqb, length}
use Rattle.grid.specs.Grid.{Grid}
use Rattle.adjacency.specs.Tables.{Table, table, list_at}
use Rattle.layout.specs.Sheet.{Sheet, sheet}

-- where each list starts, the first at n, and where the last ends
unfoldable pub offsets_from : ℕ → List (List ℕ) → List ℕ
offsets_from n [] = n ∷ []
offsets_from n (l ∷ ls) = n ∷ offsets_from (n + length l) ls

-- the lists one after the other
unfoldable pub joined : List (List ℕ) → List ℕ
joined [] = []
joined (l ∷ ls) = l ++ joined ls

-- the table of a sheet
unfoldable pub table_of : Sheet → Table
unfolding offsets_from joined
table_of s = table (length s.weights) (offsets_from 0 s.lists) (joined s.lists)

-- n lists of a table, from list k on
unfoldable pub lists_from : Table → ℕ → ℕ → List (List ℕ)
unfolding list_at
lists_from t k zero = []
lists_from t k (suc n) = list_at t k ∷ lists_from t (suc k) n

-- all lists of a table
unfoldable pub lists_of : Table → List (List ℕ)
unfolding lists_from
lists_of t = lists_from t 0 (4 * t.count)

-- a keep as it is stored: any but 0 is 1
unfoldable pub kind_of : ℕ → ℕ
kind_of keep = cond (eqb keep 0) 0 1

-- forbids as they are stored
unfoldable pub stored : List ℕ → List ℕ
unfolding kind_of
stored [] = []
stored (c ∷ []) = []
stored (c ∷ p ∷ []) = []
stored (c ∷ p ∷ k ∷ l) = c ∷ p ∷ kind_of k ∷ stored l

-- the sheet of a table with its weights, a grid and forbids
unfoldable pub sheet_for : Table → List ℕ → Grid → List ℕ → Sheet
unfolding lists_of stored
sheet_for t weights g forbids = sheet weights (lists_of t) g (stored forbids)
