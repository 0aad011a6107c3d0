-- Domains: a word for each cell, whose patterns are those possible there. Words are numbers of any width. Follows docs/RULES.md, "Domains".
-- Assumes nothing.
use Rattle.std.specs.Prelude.{Bool, false, cond, ◌||◌, List, [], ◌∷◌, ◌↔◌, ◌⊎◌, ◌≡◌, ℕ, ◌^◌, ◌<◌, eqb, length, get_or, set, replicate}
use Rattle.words.specs.Words.{bit, without, full}

-- 1 where pattern p is possible at cell c, and 0 where it is not
abbrev pub possible : List ℕ → ℕ → ℕ → ℕ
possible D c p = bit (get_or D c 0) p

-- the domains without pattern p at cell c
abbrev pub removed : List ℕ → ℕ → ℕ → List ℕ
removed D c p = set D c (without (get_or D c 0) p)

-- all of P patterns at each of n cells
abbrev pub filled : ℕ → ℕ → List ℕ
filled P n = replicate n (full P)

-- a word of P bits for each of n cells
pub record Fit (P n : ℕ) (D : List ℕ) : Type 0 where
  pub sized : length D ≡ n
  pub words : (c : ℕ) → get_or D c 0 < 2 ^ P

-- D is a subset of E: every pattern possible in D is possible in E
abbrev pub Sub : List ℕ → List ℕ → Type 0
Sub D E = (c p : ℕ) → possible D c p ≡ 1 → possible E c p ≡ 1

-- U is the union of D and E: a pattern is possible in it exactly where it is in one of them
abbrev pub Union : List ℕ → List ℕ → List ℕ → Type 0
Union D E U = (c p : ℕ) → (possible U c p ≡ 1) ↔ ((possible D c p ≡ 1) ⊎ (possible E c p ≡ 1))

-- some cell is empty
unfoldable pub emptied : List ℕ → Bool
emptied [] = false
emptied (w ∷ D) = eqb w 0 || emptied D

-- what is written of domains: where a cell is empty, every cell is
unfoldable pub settled_as : List ℕ → List ℕ
unfolding emptied
settled_as D = cond (emptied D) (replicate (length D) 0) D
