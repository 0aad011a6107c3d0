-- Where a refused sheet is wrong, as a person is told it: what follows the refusal's sentence. Follows docs/RULES.md, "Programs".
-- Assumes nothing.
use Rattle.std.specs.Prelude.{List, [], ◌++◌, ℕ}
use Rattle.text.specs.Pages.{ascii, line}
use Rattle.text.specs.Numbers.{decimal}
use Rattle.faults.specs.declared.inner.Place.{Place}
use Rattle.faults.specs.declared.inner.Place.TheVariants as at

-- the names of the directions, one to a line in their order, and those of their opposites
unfoldable pub ways : List ℕ
ways = ascii "North\nEast\nSouth\nWest"

unfoldable pub backs : List ℕ
backs = ascii "South\nWest\nNorth\nEast"

-- a list, by its direction and its pattern
unfoldable pub list_text : ℕ → ℕ → List ℕ
list_text p d = ascii ": what may stand " ++ line d ways ++ ascii " of pattern " ++ decimal p

-- that a pattern stands beside another, in the direction that is line d of the names
unfoldable pub half_text : List ℕ → ℕ → List ℕ → List ℕ → ℕ → ℕ → List ℕ
half_text start q verb names d p = start ++ decimal q ++ verb ++ line d names ++ ascii " of " ++ decimal p

-- two patterns of which one may stand beside the other, and not the other beside it
unfoldable pub pair_text : ℕ → ℕ → ℕ → List ℕ
unfolding half_text
pair_text p d q = half_text (ascii ": ") q (ascii " may stand ") ways d p ++ half_text (ascii ", but not ") p (ascii " ") backs d q

-- a forbid, and what it names
unfoldable pub forbid_text : ℕ → List ℕ → ℕ → List ℕ
forbid_text i names n = ascii ": forbid " ++ decimal i ++ names ++ decimal n

-- the place, and nothing where there is none
unfoldable pub where_text : Place → List ℕ
unfolding list_text pair_text forbid_text
where_text at.Nowhere = []
where_text (at.List p d) = list_text p d
where_text (at.Pair p d q) = pair_text p d q
where_text (at.Cell i c) = forbid_text i (ascii " names cell ") c
where_text (at.Pattern i p) = forbid_text i (ascii " names pattern ") p
