-- `collapse::inner::laying::remove_others` meets its contract. The invariant: what is asked for leads from the slices now to the same as from those at entry, and they
-- are as they must be. The measure is the cell's word.
-- Assumes nothing.
use mathlib.Core.List.{[]}
use mathlib.Core.Path.{refl, sym, subst, ◌∙◌}
use Prim.Native.Nat.{ℕ}
use native.Mathlib.Omega.{arith}
use Rattle.notes.specs.Beside.{beside, lessened}
use Rattle.propagation.specs.Lent.{state_of, Lent}
use Rattle.propagation.proofs.LentLaws.{lent-after}
use Rattle.collapse.proofs.StepLaws.{others-done, next_below, next_possible, others_next, next_safe, next_less}
use Rattle.collapse.proofs.inner.laying.remove_others.Goals as goal
use Rattle.collapse.proofs.inner.laying.remove_others.Goals.{Start}

pub loop-left-init : goal.loop-left-init
loop-left-init c =
    (c.without_pattern-left.ensures, λ marks. refl, record { lent = c.requires.lent; domains = refl; counts = refl; pending = refl; floats = refl })

pub remove-next-requires : goal.remove-next-requires
remove-next-requires c =
    let (is, _, going) = c.loop-left.invariant in
    let hc = c.requires.cell_in_bounds.0 in record {
      lent = subst (λ (k : ℕ). Lent c.args.count k c.loop-left.domains c.loop-left.counts c.loop-left.pending c.loop-left.next) (sym going.domains) going.lent;
      weighed = (c.requires.weighed.0, λ p h. omega (arith, c.requires.weighed.1 p h, going.floats, going.domains), c.requires.weighed.2);
      cell_in_bounds = (
        omega (arith, hc, going.domains),
        next_below going.lent hc _ is c.loop-left-test.true c.next_pattern.ensures,
        next_possible going.lent hc _ is c.loop-left-test.true c.next_pattern.ensures,
      );
    }

pub offset_bounds-domains-cell-in-loop-left : goal.offset_bounds-domains-cell-in-loop-left
offset_bounds-domains-cell-in-loop-left c =
    omega (arith, c.requires.cell_in_bounds.0, c.requires.lent.cells)

pub bounds-domains-cell-in-loop-left : goal.bounds-domains-cell-in-loop-left
bounds-domains-cell-in-loop-left c =
    omega (arith, c.requires.cell_in_bounds.0, c.loop-left.invariant.2.domains, c.remove-next.auto.domains)

pub without_pattern-left-requires-in-loop-left : goal.without_pattern-left-requires-in-loop-left
without_pattern-left-requires-in-loop-left c =
    omega (arith, c.requires.cell_in_bounds.1, c.requires.lent.patterns)

pub loop-left-smaller : goal.loop-left-smaller
loop-left-smaller c =
    let (is, _, going) = c.loop-left.invariant in
    let l = c.remove-next.new in
    next_less going.lent c.requires.cell_in_bounds.0 c.args.pattern is c.loop-left-test.true c.next_pattern.ensures (lessened c.args.weights.now) (beside c.loop-left.floats []) {s = state_of c.args.count l.domains l.counts l.pending c.remove-next.result (beside l.floats [])} (c.remove-next.ensures [])

pub loop-left-preserved : goal.loop-left-preserved
loop-left-preserved c =
    let (is, left, going) = c.loop-left.invariant in
    let hc = c.requires.cell_in_bounds.0 in
    let l = c.remove-next.new in (
      c.without_pattern-left-in-loop-left.ensures,
      λ marks. others_next going.lent hc c.args.pattern is c.loop-left-test.true c.next_pattern.ensures (lessened c.args.weights.now) (beside c.loop-left.floats marks) {s = state_of c.args.count l.domains l.counts l.pending c.remove-next.result (beside l.floats marks)} (c.remove-next.ensures marks) ∙ left marks,
      record {
        lent = lent-after going.lent (next_safe going.lent hc c.args.pattern is c.loop-left-test.true c.next_pattern.ensures (lessened c.args.weights.now) (beside c.loop-left.floats []) {s = state_of c.args.count l.domains l.counts l.pending c.remove-next.result (beside l.floats [])} (c.remove-next.ensures [])) c.remove-next.auto.pending;
        domains = c.remove-next.auto.domains ∙ going.domains;
        counts = c.remove-next.auto.counts ∙ going.counts;
        pending = c.remove-next.auto.pending ∙ going.pending;
        floats = c.remove-next.auto.floats ∙ going.floats;
      },
    )

pub shape_of-domains : goal.shape_of-domains
shape_of-domains c = c.loop-left.invariant.2.domains

pub shape_of-counts : goal.shape_of-counts
shape_of-counts c = c.loop-left.invariant.2.counts

pub shape_of-pending : goal.shape_of-pending
shape_of-pending c = c.loop-left.invariant.2.pending

pub shape_of-floats : goal.shape_of-floats
shape_of-floats c = c.loop-left.invariant.2.floats

pub returns : goal.returns
returns c =
    let (is, left, going) = c.loop-left.invariant in
    λ marks. sym (others-done going.lent c.requires.cell_in_bounds.0 _ is _ _ c.loop-left-test.false) ∙ left marks
