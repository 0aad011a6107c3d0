-- A page: the bytes that are lent, and the place where the next one goes. Texts as lists of bytes.
-- Assumes nothing.
use Rattle.std.specs.Prelude.{cond, List, [], ◌∷◌, ◌++◌, ℕ, zero, suc, ◌+◌, ◌≡◌, ltb, eqb, length, set}
use Prim.Native.Char.{code}
use Prim.Native.String.{String, [], ◌∷◌}
use Rattle.loops.specs.Loops.{each}
use Rattle.text.specs.declared.Page as lent

-- the bytes of a text in ASCII
abbrev pub ascii : String → List ℕ
ascii [] = []
ascii (c ∷ s) = code c ∷ ascii s

-- what is lent, and the place of the next byte
pub record Page : Type 0 where
  pub bytes : List ℕ
  pub at : ℕ

abbrev pub page : List ℕ → ℕ → Page
page bytes at = record { bytes = bytes; at = at }

-- one byte more, where the page has room for it
unfoldable pub put_byte : ℕ → Page → Page
put_byte b p = cond (ltb p.at (length p.bytes)) (page (set p.bytes p.at b) (p.at + 1)) p

-- a text, byte after byte
unfoldable pub put : List ℕ → Page → Page
unfolding each put_byte
put text p = each put_byte text p

-- what the lent page holds, and its next place
abbrev pub page_of : lent.Page → Page
page_of p = page p.out.now p.at

-- a text was put on a page: the page is the one that was lent, with the text on it
pub record Puts (text : List ℕ) (old new : lent.Page) : Type 0 where
  pub same : new.out.ghost_name ≡ old.out.ghost_name
  pub is : page_of new ≡ put text (page_of old)

-- the texts of i, i + 1, .., as many as `count`, one after the other
unfoldable pub texts : (ℕ → List ℕ) → ℕ → ℕ → List ℕ
texts f i zero = []
texts f i (suc count) = f i ++ texts f (suc i) count

-- line number k of a text, without its end
unfoldable pub line : ℕ → List ℕ → List ℕ
line k [] = []
line zero (b ∷ t) = cond (eqb b 10) [] (b ∷ line zero t)
line (suc k) (b ∷ t) = cond (eqb b 10) (line k t) (line (suc k) t)
