-- `words::inner::lacked_patterns` meets its contract: all patterns less those of the word.
-- Assumes nothing.
use mathlib.Core.Path.{ap}
use Prim.Native.Nat.{ℕ, ◌-◌}
use native.Mathlib.Omega.{arith}
use Rattle.words.specs.Words.{full, lacked}
use Rattle.words.proofs.inner.lacked_patterns.Goals as goal

pub overflow_sub-result : goal.overflow_sub-result
unfolding full
overflow_sub-result c = omega (arith, c.full_word.ensures)

pub returns : goal.returns
unfolding lacked
returns c = ap (λ (x : ℕ). x - c.args.word) c.full_word.ensures
