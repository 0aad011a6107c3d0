-- `choice::observer::valid` meets its contract: each return is what the tests on the way say.
-- Assumes nothing.
use mathlib.Core.Bool.{and-true}
use mathlib.Core.Path.{◌≡◌, sym, ap, ◌∙◌}
use Prim.Native.Nat.{ℕ, ◌≤◌}
use lib.Bits.{bit_and}
use lib.Dec.{eqb}
use borrow.Author.Tests.{eq-eqb, ne_eqb, le-leb}
use Rattle.words.specs.Words.{how_many}
use Rattle.choice.specs.Observer.{valid}
use Rattle.choice.proofs.observer.valid.Goals as goal

-- the way past the test
enough : (count w mask : ℕ) {m : ℕ} → (count ≡ 0 → ⊥) → 2 ≤ how_many 64 w → m ≡ how_many 64 (bit_and w mask) → eqb m count ≡ valid count w mask
unfolding valid
enough count w mask n h f = rw (ne_eqb count 0 n, le-leb 2 (how_many 64 w) h, f) (sym (and-true (eqb (how_many 64 (bit_and w mask)) count)))

pub returns-then-note-eq0 : goal.returns-then-note-eq0
unfolding valid
returns-then-note-eq0 c = rw (eq-eqb _ _ c.if-note-eq0.true)

pub returns : goal.returns
returns c =
    enough _ _ _ c.if-note-eq0.false c.requires (c.count_ones.ensures ∙ ap (how_many 64) c.shared.ensures)
