-- `picture::put_swatches` meets its contract. The invariant: the entries up to this one were put.
-- Assumes nothing.
use Rattle.text.specs.Pages.{Puts, texts}
use Rattle.picture.specs.Picture.{shown_text}
use Rattle.picture.proofs.put_swatches.Given as goal

abbrev pub invariant-loop-p : goal.invariant-loop-p
invariant-loop-p l = Puts (texts (shown_text l.height l.named l.domains) 0 l.p) l.fn.page l.page
