-- `collapse::inner::turns::still_end` meets its contract.
-- Assumes nothing.
use mathlib.Core.Bool.{Bool, cond}
use mathlib.Core.Path.{sym, ap, ◌∙◌}
use Prim.Native.Nat.{ℕ}
use Rattle.collapse.proofs.inner.turns.still_end.Goals as goal

-- the end, from whether every cell has one pattern
abbrev end : Bool → ℕ
end b = cond b 0 1

pub returns-then-decided : goal.returns-then-decided
returns-then-decided c = ap end (sym c.if-decided.true ∙ c.decided.ensures)

pub returns : goal.returns
returns c = ap end (sym c.if-decided.false ∙ c.decided.ensures)
