-- `adjacency::inner::Table::bad_list` meets its contract: the lists are looked at where the offsets are as they must be.
-- Assumes nothing.
use mathlib.Core.Path.{sym, ◌∙◌}
use Rattle.adjacency.specs.Checks.{bad_list}
use Rattle.adjacency.proofs.ListLaws.{laid}
use Rattle.adjacency.proofs.inner.Table.bad_list.Goals as goal
use Rattle.adjacency.proofs.inner.Table.bad_list.Goals.{then-offsets_ok, else-offsets_ok}

pub lists_ok-requires : goal.lists_ok-requires
lists_ok-requires c = laid _ c.requires (sym c.offsets_ok.ensures ∙ c.if-offsets_ok.true)

pub returns : goal.returns
unfolding bad_list
returns c =
    elim c.if-offsets_ok.branch [
      | then-offsets_ok w ↦ rw (w.result-is, ← c.offsets_ok.ensures, w.if-offsets_ok.true, w.lists_ok.ensures)
      | else-offsets_ok w ↦ rw (w.result-is, ← c.offsets_ok.ensures, w.if-offsets_ok.false)
    ]
