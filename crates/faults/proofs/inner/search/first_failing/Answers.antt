-- `faults::inner::search::first_failing` meets its contract. The invariant: what is found from number k on is what is found of all.
-- Assumes nothing.
use mathlib.Core.Path.{◌≡◌, sym, ◌∙◌}
use native.Mathlib.Omega.{arith}
use Rattle.faults.proofs.SearchLaws.{search_begun, search_turn, search_stop, search_end}
use Rattle.faults.proofs.inner.search.first_failing.Goals as goal

pub loop-k-init : goal.loop-k-init
loop-k-init g c = λ f t. search_begun _ _

pub returns-then-not-fits : goal.returns-then-not-fits
returns-then-not-fits g c = λ f t.
    let k = c.loop-k.k in
    search_stop f _ (c.loop-k.invariant f t) c.loop-k-test.true (sym (t k _ c.loop-k-test.true c.fits.ensures) ∙ c.if-not-fits.true)

pub loop-k-preserved : goal.loop-k-preserved
loop-k-preserved g c = λ f t.
    let k = c.loop-k.k in
    search_turn f _ (c.loop-k.invariant f t) c.loop-k-test.true (sym (t k _ c.loop-k-test.true c.fits.ensures) ∙ c.if-not-fits.false)

pub returns : goal.returns
returns g c = λ f t.
    let end : c.args.end ≡ c.loop-k.k = omega arith in
    end ∙ search_end f _ (c.loop-k.invariant f t) c.loop-k-test.false
