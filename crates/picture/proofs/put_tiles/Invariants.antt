-- `picture::put_tiles` meets its contract. The invariant: the cells up to this one were put.
-- Assumes nothing.
use lib.ListN.{get_or}
use Rattle.text.specs.Pages.{Puts, texts}
use Rattle.picture.specs.Picture.{tile_text}
use Rattle.picture.proofs.put_tiles.Given as goal

abbrev pub invariant-loop-x : goal.invariant-loop-x
invariant-loop-x l = Puts (texts (λ x. tile_text l.named x l.y (get_or l.row x 0)) 0 l.x) l.fn.page l.page
