-- `words::inner::full_word` meets its contract: 64 ones shifted down are as many ones as there are patterns.
-- Assumes nothing.
use mathlib.Core.Path.{◌≡◌, ap, ◌∙◌}
use Prim.Native.Nat.{ℕ, ◌+◌, ◌-◌, ◌/◌, ◌^◌}
use native.Mathlib.Omega.{arith}
use lib.Pow.{ones_split, ones_lt, high}
use Rattle.words.specs.Words.{full}
use Rattle.words.proofs.inner.full_word.Goals as goal

pub returns : goal.returns
unfolding full
returns c =
    let p = c.args.count in
    let k = 64 - p in
    let e : 64 ≡ p + k = omega arith in
    ap (λ (n : ℕ). (2 ^ n - 1) / 2 ^ k) e ∙ ap (λ (x : ℕ). x / 2 ^ k) (ones_split p k) ∙ high (2 ^ p - 1) k (ones_lt k)
