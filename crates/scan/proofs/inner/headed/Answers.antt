-- `scan::inner::headed` meets its contract: by how many bytes of the six were read.
-- Assumes nothing.
use mathlib.Core.Path.{sym, ◌∙◌}
use borrow.Author.Tests.{lt-ltb, le-ltb, le-leb, lt-leb, eq-eqb, ne_eqb}
use Rattle.scan.specs.Scanning.{headed}
use Rattle.scan.proofs.inner.headed.Goals as goal

pub returns-then-at-lt4 : goal.returns-then-at-lt4
unfolding headed
returns-then-at-lt4 c = rw (lt-ltb c.args.at 4 c.if-at-lt4.true)

pub returns-then-x-kind : goal.returns-then-x-kind
unfolding headed
returns-then-x-kind c =
    let a = c.args in
    rw (le-ltb a.at 4 c.if-at-lt4.false, eq-eqb a.at 4 c.if-at-eq4.true, ne_eqb a.x a.kind c.if-x-kind.true)

pub returns-then-at-eq4 : goal.returns-then-at-eq4
unfolding headed
returns-then-at-eq4 c =
    let a = c.args in
    rw (le-ltb a.at 4 c.if-at-lt4.false, eq-eqb a.at 4 c.if-at-eq4.true, eq-eqb a.x a.kind c.if-x-kind.false)

pub returns-then-x-ne0 : goal.returns-then-x-ne0
unfolding headed
returns-then-x-ne0 c =
    let a = c.args in
    rw (le-ltb a.at 4 c.if-at-lt4.false, ne_eqb a.at 4 c.if-at-eq4.false, ne_eqb a.x 0 c.if-x-ne0.true)

pub returns-then-size-lt2 : goal.returns-then-size-lt2
unfolding headed
returns-then-size-lt2 c =
    let a = c.args in
    rw (le-ltb a.at 4 c.if-at-lt4.false, ne_eqb a.at 4 c.if-at-eq4.false, eq-eqb a.x 0 c.if-x-ne0.false, lt-leb 2 a.size c.if-size-lt2.true)

pub returns : goal.returns
unfolding headed
returns c =
    let a = c.args in
    c.holding.ensures ∙ sym (rw (le-ltb a.at 4 c.if-at-lt4.false, ne_eqb a.at 4 c.if-at-eq4.false, eq-eqb a.x 0 c.if-x-ne0.false, le-leb 2 a.size c.if-size-lt2.false))
