-- No noted entropy of a run is a NaN, so that its entropies are ordered: what a turn observes has the least entropy, then the least
-- noise word, then the least number, of the cells whose notes count. Follows docs/RULES.md, "Run" and "Entropy". Assumes nothing.
use mathlib.Core.Bool.{true}
use mathlib.Core.List.{List}
use mathlib.Core.Path.{◌≡◌, refl, ap}
use Prim.Native.Nat.{ℕ, ◌≤◌, ◌<◌}
use native.Mathlib.Omega.{arith}
use lib.Ieee.{Float}
use lib.ListN.{length, length-take, length-drop}
use Rattle.order.specs.Numbers.{Numbers}
use Rattle.grid.specs.Grid.{cells}
use Rattle.consistency.specs.Worklist.{State}
use Rattle.notes.specs.Beside.{Beside}
use Rattle.std.specs.Prelude.{Some, None}
use Rattle.std.proofs.lemmas.Option.{same_Some, none-some}
use Rattle.choice.specs.declared.inner.Sight.{Sight}
use Rattle.choice.specs.Observer.{entropy_at, counts_at, observe, sight_of, Observed, sight}
use Rattle.forbids.specs.declared.Forbid.{Forbid}
use Rattle.course.specs.Run.{Given, notes_of, sighted}
use Rattle.course.specs.Course.{Lawful, Reached}
use Rattle.order.proofs.ListLaws.{numbers-drop}
use Rattle.choice.proofs.ObserverLaws.{Seen, Yields, observed-seen, observed-least, least-observed}
use Rattle.course.proofs.StateLaws.{reached-stands}
use Rattle.course.proofs.SoundLaws.{reached-numbers}

-- ---- along a course

module _ (i : Given) (fs : List Forbid) (L : Lawful i fs) where
  module _ {words : List ℕ} {k used : ℕ} {s : State Beside} (r : Reached i fs words k used s) where
    -- so none that the observer reads is
    noted-numbers : Numbers (notes_of i s).entropies
    unfolding notes_of
    noted-numbers = numbers-drop s.beside.floats (cells i.grid) (reached-numbers i fs L r).numbers

    noted-each : length (notes_of i s).counts ≤ length (notes_of i s).entropies
    unfolding notes_of
    noted-each =
        omega (arith, (reached-numbers i fs L r).long, length-take (cells i.grid) s.beside.marks, length-drop (cells i.grid) s.beside.floats)

    noted-cells : length (notes_of i s).domains ≡ cells i.grid
    unfolding notes_of
    noted-cells = (reached-stands i fs L r).settled.safe.fit.sized

    least : (c : ℕ) (e : Float) → observe (notes_of i s) ≡ Some (sight c e) → (j : ℕ) → j < cells i.grid → Yields (notes_of i s) c j
    least c e is j h = observed-least (notes_of i s) is noted-numbers noted-each j (omega (arith, h, noted-cells))

    -- what a turn observes: a cell whose note counts, with its own entropy, to which every other cell gives way
    pub sighted-least : (x : Sight) → sighted i s ≡ Some x
        → Seen (notes_of i s) x.cell x.entropy × ((j : ℕ) → j < cells i.grid → Yields (notes_of i s) x.cell j)
    unfolding sighted sight_of
    sighted-least x = go (observe (notes_of i s)) (λ c e is. (observed-seen (notes_of i s) is, least c e is))
      where
        go : (o : Observed)
            → ((c : ℕ) (e : Float) → o ≡ Some (sight c e) → Seen (notes_of i s) c e × ((j : ℕ) → j < cells i.grid → Yields (notes_of i s) c j))
            → sight_of o ≡ Some x → Seen (notes_of i s) x.cell x.entropy × ((j : ℕ) → j < cells i.grid → Yields (notes_of i s) x.cell j)
        go (Some y) f q =
            let same = same_Some y x q in
            let at : y.cell ≡ x.cell = ap (λ (z : Sight). z.cell) same in
            let of : y.entropy ≡ x.entropy = ap (λ (z : Sight). z.entropy) same in
            rw (← at, ← of) (f y.cell y.entropy refl)
        go None f q = absurd (none-some x q)

    -- and a cell to which every other gives way is what it observes
    pub least-sighted : (c : ℕ) → c < cells i.grid → counts_at (notes_of i s) c ≡ true → ((j : ℕ) → j < cells i.grid → Yields (notes_of i s) c j)
        → sighted i s ≡ Some (record { cell = c; entropy = entropy_at (notes_of i s) c })
    unfolding sighted sight_of
    least-sighted c h k yields =
        ap sight_of (least-observed (notes_of i s) noted-numbers noted-each c (omega (arith, h, noted-cells)) k (λ j l. yields j (omega (arith, l, noted-cells))))
