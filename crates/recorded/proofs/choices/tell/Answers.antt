-- `recorded::choices::tell` has two places and an entropy for each word that is kept.
-- Assumes nothing.
use mathlib.Core.List.{List}
use mathlib.Core.Path.{◌≡◌, sym}
use Prim.Native.Nat.{ℕ, ◌≤◌}
use native.Mathlib.Omega.{arith}
use lib.ListN.{length, take}
use Rattle.std.proofs.lemmas.List.{length-take, length-take-le}
use Rattle.recorded.proofs.choices.tell.Goals as goal

-- no more words are kept than there are places to tell
few : (words kept : List ℕ) → kept ≡ take 1025 words → length kept ≤ 1025
few words kept e = rw e (omega (arith, length-take 1025 words))

pub slice_bounds-places-end : goal.slice_bounds-places-end
slice_bounds-places-end g c = omega (arith, few _ _ c.front-words.ensures, c.room-places.ensures)

pub slice_bounds-murghidossu_trace-end : goal.slice_bounds-murghidossu_trace-end
slice_bounds-murghidossu_trace-end g c = sym (length-take-le _ _ (omega (arith, few _ _ c.front-words.ensures, c.room-places.ensures)))

pub slice_bounds-entropies-end : goal.slice_bounds-entropies-end
slice_bounds-entropies-end g c = omega (arith, few _ _ c.front-words.ensures, c.room-entropies.ensures)

pub slice_bounds-murghidossu_trace-end-2 : goal.slice_bounds-murghidossu_trace-end-2
slice_bounds-murghidossu_trace-end-2 g c = sym (length-take-le _ _ (omega (arith, few _ _ c.front-words.ensures, c.room-entropies.ensures)))
