-- The refusals' numbers, and which refusal is given: the first whose test holds, in the order of a list. Follows docs/RULES.md, "Refusals".
-- Assumes nothing.
use Rattle.std.specs.Prelude.{Bool, cond, List, [], ◌∷◌, ℕ, zero, suc, Result, Ok, Err}
use Rattle.refusals.specs.declared.Refusal.{Refusal}
use Rattle.refusals.specs.declared.Refusal.TheVariants.{BadSize, BadWrap, BadCount, BadWeights, BadLength, BadList, Disagree, BadCell, BadPattern, BadSheet, BadDirection}

-- the number of each refusal
unfoldable pub number : Refusal → ℕ
number BadSize = 1
number BadWrap = 2
number BadCount = 3
number BadWeights = 4
number BadLength = 5
number BadList = 6
number Disagree = 7
number BadCell = 8
number BadPattern = 9
number BadSheet = 10
number BadDirection = 11

-- the number of what a check answers: 0 where nothing is refused
unfoldable pub number_of : Result (Unit {0}) Refusal → ℕ
unfolding number
number_of (Ok u) = 0
number_of (Err r) = number r

-- a test, and the refusal that is given where it holds
pub record Test : Type 0 where
  pub holds : Bool
  pub refusal : Refusal

infix 5 ◌gives◌
abbrev pub ◌gives◌ : Bool → Refusal → Test
b gives r = record { holds = b; refusal = r }

-- the number of the first refusal whose test holds, in the list's order; 0 where none does
unfoldable pub first_of : List Test → ℕ
unfolding number
first_of [] = 0
first_of (t ∷ ts) = cond t.holds (number t.refusal) (first_of ts)

-- what a call that may refuse comes to: the number of a refusal alone, or an answer
pub data Asked (A : Type 0) : Type 0 where
  refused : ℕ → Asked A
  answer : A → Asked A

-- the answer where the number is 0, and the refusal otherwise
unfoldable pub unless : {A : Type 0} → ℕ → A → Asked A
unless zero x = answer x
unless (suc n) x = refused (suc n)

-- the answer where no test holds, and the first refusal otherwise
unfoldable pub checked : {A : Type 0} → List Test → A → Asked A
unfolding first_of unless
checked ts x = unless (first_of ts) x
