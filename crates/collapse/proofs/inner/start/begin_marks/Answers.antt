-- `collapse::inner::start::begin_marks` meets its contract: all zero, then the first part one number.
-- Assumes nothing.
use mathlib.Core.List.{List, ◌++◌}
use mathlib.Core.Path.{ap, ◌∙◌}
use Prim.Native.Nat.{ℕ}
use lib.ListN.{replicate, drop}
use Rattle.collapse.proofs.StartLaws.{fill-first}
use Rattle.collapse.proofs.inner.start.begin_marks.Goals as goal

pub returns : goal.returns
returns c =
    c.fill_marks.ensures ∙ ap (λ (l : List ℕ). replicate c.args.cells c.args.number ++ drop c.args.cells l) c.zero_bytes.ensures
    ∙ fill-first c.args.number 0 _ c.args.cells c.requires
