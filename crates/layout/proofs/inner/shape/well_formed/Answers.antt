-- `layout::inner::shape::well_formed` meets its contract.
-- Assumes nothing.
use mathlib.Core.Bool.{true}
use mathlib.Core.List.{List}
use mathlib.Core.Path.{◌≡◌, refl, sym, ap, ◌∙◌}
use Prim.Native.Nat.{ℕ, ◌*◌}
use lib.Dec.{eqb}
use lib.ListN.{length}
use borrow.Author.Tests.{eq-eqb, ne_eqb}
use Rattle.records.specs.Records.{payload_of}
use Rattle.layout.specs.Reading.{from_lists, from_forbids, framed, count_in, weights_fit, lists_fit, grid_fits, forbids_fit}
use Rattle.layout.proofs.ShapeLaws.{framed-frames, well_formed-is}
use Rattle.layout.proofs.inner.shape.well_formed.Goals as goal
use Rattle.layout.proofs.inner.shape.well_formed.Goals.{After-framed, After-weights_fit, After-lists_fit, After-forbids_fit, Else-not-framed, Else-not-weights_fit, Else-not-lists_fit}

-- ---- what each test found
frames-found : (c : After-framed) → framed c.args.sheet.now ≡ c.framed.result
frames-found c = sym c.framed.ensures

weights-found : (c : After-weights_fit) → weights_fit (payload_of c.args.sheet.now) ≡ c.weights_fit.result
weights-found c = ap weights_fit (sym c.payload_of.ensures) ∙ sym c.weights_fit.ensures

lists-found : (c : After-lists_fit) → lists_fit (4 * count_in c.args.sheet.now) (payload_of (from_lists c.args.sheet.now)) ≡ c.lists_fit.result
lists-found c =
    sym (ap (λ (n : ℕ). lists_fit (4 * n) (payload_of (from_lists c.args.sheet.now))) c.count_of.ensures.0)
    ∙ sym (ap (lists_fit (4 * c.count_of.result)) c.lists_of.ensures) ∙ sym c.lists_fit.ensures

forbids-found : (c : After-forbids_fit) → forbids_fit (payload_of (from_forbids c.args.sheet.now)) ≡ c.forbids_fit.result
forbids-found c = ap forbids_fit (sym c.forbids_of.ensures) ∙ sym c.forbids_fit.ensures

-- ---- what the tests before left
frames-good : (c : Else-not-framed) → framed c.args.sheet.now ≡ true
frames-good c = frames-found (goal.at.Else-not-framed c).After-framed ∙ c.if-not-framed.false

weights-good : (c : Else-not-weights_fit) → weights_fit (payload_of c.args.sheet.now) ≡ true
weights-good c = weights-found (goal.at.Else-not-weights_fit c).After-weights_fit ∙ c.if-not-weights_fit.false

lists-good : (c : Else-not-lists_fit) → lists_fit (4 * count_in c.args.sheet.now) (payload_of (from_lists c.args.sheet.now)) ≡ true
lists-good c = lists-found (goal.at.Else-not-lists_fit c).After-lists_fit ∙ c.if-not-lists_fit.false

pub returns-then-not-framed : goal.returns-then-not-framed
returns-then-not-framed c = sym (well_formed-is _ (frames-found (goal.at.returns-then-not-framed c).After-framed ∙ c.if-not-framed.true) refl refl refl refl)

pub payload_of-requires : goal.payload_of-requires
payload_of-requires c = (framed-frames _ (frames-good c)).first

pub returns-then-not-weights_fit : goal.returns-then-not-weights_fit
returns-then-not-weights_fit c = sym (well_formed-is _ (frames-good (goal.at.returns-then-not-weights_fit c).Else-not-framed) (weights-found (goal.at.returns-then-not-weights_fit c).After-weights_fit ∙ c.if-not-weights_fit.true) refl refl refl)

pub count_of-requires : goal.count_of-requires
count_of-requires c = (framed-frames _ (frames-good (goal.at.count_of-requires c).Else-not-framed), weights-good c)

pub lists_of-requires : goal.lists_of-requires
lists_of-requires c = framed-frames _ (frames-good (goal.at.lists_of-requires c).Else-not-framed)

pub returns-then-not-lists_fit : goal.returns-then-not-lists_fit
returns-then-not-lists_fit c = sym (well_formed-is _ (frames-good (goal.at.returns-then-not-lists_fit c).Else-not-framed) (weights-good (goal.at.returns-then-not-lists_fit c).Else-not-weights_fit) (lists-found (goal.at.returns-then-not-lists_fit c).After-lists_fit ∙ c.if-not-lists_fit.true) refl refl)

pub grid_of-requires : goal.grid_of-requires
grid_of-requires c = framed-frames _ (frames-good (goal.at.grid_of-requires c).Else-not-framed)

pub returns-then-grid_of-ne6 : goal.returns-then-grid_of-ne6
unfolding grid_fits
returns-then-grid_of-ne6 c =
    let sides = ap (λ (p : List ℕ). eqb (length p) 6) (sym c.grid_of.ensures) ∙ ne_eqb _ _ c.if-grid_of-ne6.true in
    sym (well_formed-is _ (frames-good (goal.at.returns-then-grid_of-ne6 c).Else-not-framed) (weights-good (goal.at.returns-then-grid_of-ne6 c).Else-not-weights_fit) (lists-good (goal.at.returns-then-grid_of-ne6 c).Else-not-lists_fit) sides refl)

pub forbids_of-requires : goal.forbids_of-requires
forbids_of-requires c = framed-frames _ (frames-good (goal.at.forbids_of-requires c).Else-not-framed)

pub returns : goal.returns
unfolding grid_fits
returns c =
    let sides = ap (λ (p : List ℕ). eqb (length p) 6) (sym c.grid_of.ensures) ∙ eq-eqb _ _ c.if-grid_of-ne6.false in
    sym (well_formed-is _ (frames-good (goal.at.returns c).Else-not-framed) (weights-good (goal.at.returns c).Else-not-weights_fit) (lists-good (goal.at.returns c).Else-not-lists_fit) sides (forbids-found c))
