-- `scan::inner::formed` meets its contract: by the state.
-- Assumes nothing.
use mathlib.Core.Bool.{false}
use Prim.Native.Nat.{ℕ}
use mathlib.Core.Path.{◌≡◌, refl, sym, ap}
use Rattle.scan.specs.declared.inner.Scan.{Scan}
use Rattle.scan.specs.declared.inner.Scan.TheVariants.{Bad, Head, Count, High, Pass, Lists, Ids, Forbids}
use Rattle.scan.specs.Scanning.{formed}
use Rattle.scan.proofs.inner.formed.Goals as goal

-- a state of another variant
other : (s : Scan) → ((left : ℕ) → s ≡ Forbids left → ⊥) → false ≡ formed s
unfolding formed
other Bad n = refl
other (Head kind lists at size) n = refl
other (Count left) n = refl
other (High left low) n = refl
other (Pass left kind lists) n = refl
other (Lists left lists) n = refl
other (Ids ids left lists) n = refl
other (Forbids left) n = absurd (n left refl)

pub returns-in_default : goal.returns-in_default
returns-in_default c = other c.args.state c.in_default.not-Forbids

pub returns-in-Forbids : goal.returns-in-Forbids
unfolding formed
returns-in-Forbids c = sym (ap formed c.in-Forbids.is)
