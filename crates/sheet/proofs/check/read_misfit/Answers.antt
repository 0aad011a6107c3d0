-- `sheet::check::read_misfit` meets its contract.
-- Assumes nothing.
use mathlib.Core.Bool.{not}
use mathlib.Core.Path.{refl, sym, ap}
use borrow.Author.Tests.{eq-eqb, ne_eqb, lt-ltb, le-ltb}
use Rattle.sheet.proofs.CalledLaws.{read_misfit-is}
use Rattle.sheet.proofs.check.read_misfit.Goals as goal

pub returns-then-weights-m : goal.returns-then-weights-m
returns-then-weights-m c = sym (read_misfit-is c.args.m c.args.weights c.args.offsets c.args.ids c.args.forbids (ap not (ne_eqb _ _ c.if-weights-m.true)) refl refl refl)

pub returns-then-offsets-m : goal.returns-then-offsets-m
returns-then-offsets-m c = sym (read_misfit-is c.args.m c.args.weights c.args.offsets c.args.ids c.args.forbids (ap not (eq-eqb _ _ c.if-weights-m.false)) (ap not (ne_eqb _ _ c.if-offsets-m.true)) refl refl)

pub returns-then-ids-m : goal.returns-then-ids-m
returns-then-ids-m c = sym (read_misfit-is c.args.m c.args.weights c.args.offsets c.args.ids c.args.forbids (ap not (eq-eqb _ _ c.if-weights-m.false)) (ap not (eq-eqb _ _ c.if-offsets-m.false)) (lt-ltb _ _ c.if-ids-m.true) refl)

pub returns : goal.returns
returns c = sym (read_misfit-is c.args.m c.args.weights c.args.offsets c.args.ids c.args.forbids (ap not (eq-eqb _ _ c.if-weights-m.false)) (ap not (eq-eqb _ _ c.if-offsets-m.false)) (le-ltb _ _ c.if-ids-m.false) refl)
