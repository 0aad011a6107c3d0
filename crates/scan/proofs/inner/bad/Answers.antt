-- `scan::inner::bad` meets its contract: by the state.
-- Assumes nothing.
use mathlib.Core.Bool.{false}
use mathlib.Core.Path.{◌≡◌, refl, sym, ap}
use Rattle.scan.specs.declared.inner.Scan.{Scan}
use Rattle.scan.specs.declared.inner.Scan.TheVariants.{Bad, Head, Count, High, Pass, Lists, Ids, Forbids}
use Rattle.scan.specs.Scanning.{bad}
use Rattle.scan.proofs.inner.bad.Goals as goal

-- a state of another variant
other : (s : Scan) → (s ≡ Bad → ⊥) → false ≡ bad s
unfolding bad
other Bad n = absurd (n refl)
other (Head kind lists at size) n = refl
other (Count left) n = refl
other (High left low) n = refl
other (Pass left kind lists) n = refl
other (Lists left lists) n = refl
other (Ids ids left lists) n = refl
other (Forbids left) n = refl

pub returns-in-Bad : goal.returns-in-Bad
unfolding bad
returns-in-Bad c = sym (ap bad c.in-Bad.is)

pub returns-in_default : goal.returns-in_default
returns-in_default c = other c.args.state c.in_default.not-Bad
