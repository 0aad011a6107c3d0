-- The names of the practice ocean's patterns, from pole to pole. Assumes nothing.
use Rattle.std.specs.Prelude.{List, ℕ}
use Rattle.text.specs.Pages.{ascii, line}

-- the name of a pattern, and no text for one that the ocean has not
unfoldable pub name_of : ℕ → List ℕ
unfolding line
name_of p = line p (ascii "arctic pack ice\npolar easterlies\nnorthern westerlies\nnorthern horse latitudes\nnorth-east trades\nsqualls\ndoldrums\nsouth-east trades\nsouthern horse latitudes\nroaring forties\ngales\nantarctic pack ice")
