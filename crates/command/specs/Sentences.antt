-- The sentences that a person is told, each in one line that starts with `ocean: `. Follows docs/RULES.md, "Refusals" and "Programs".
-- Assumes nothing.
use Rattle.std.specs.Prelude.{cond, ◌||◌, List, [], ◌∷◌, ◌++◌, ℕ, ltb, eqb, map}
use Rattle.text.specs.Pages.{ascii, line}
use Rattle.text.specs.Numbers.{decimal}
use Rattle.faults.specs.declared.inner.Place.{Place}
use Rattle.command.specs.declared.sentences.FileFault.{FileFault}
use Rattle.command.specs.declared.sentences.FileFault.TheVariants as wrong
use Rattle.command.specs.Places.{where_text}

-- the name of each refusal and what it means, one to a line, from 0 for none
unfoldable pub sentences : List ℕ
sentences = ascii "Accepted: nothing is refused\nBadSize: a side of the grid is 0 or over 64, or there are over 1,024 cells\nBadWrap: the wrap mode is over 3\nBadCount: there is no pattern, or there are over 64\nBadWeights: the weights add up to more than 1,024\nBadLength: the noise is not one 32-bit word for each cell\nBadList: a list of neighbours is empty, not strictly ascending, or names a pattern that is not there\nDisagree: a pattern may stand beside another that may not stand beside it\nBadCell: a forbid names a cell that is not in the grid\nBadPattern: a forbid names a pattern that is not there\nBadSheet: the file is no sheet: a record has the wrong length or kind, a forbid's third number is over 1, or there are over 4,096 forbids\nBadDirection: the direction is over 3"

-- why a sheet was refused, by the refusal's number, and where it is wrong
unfoldable pub refusal_text : ℕ → Place → List ℕ
unfolding where_text
refusal_text number place = ascii "ocean: refused: " ++ decimal number ++ (32 ∷ []) ++ line number sentences ++ where_text place ++ ascii ".\n"

-- what is wrong with what is asked, one to a line, from 0 for nothing
unfoldable pub faults : List ℕ
faults = ascii "\n--seed wants a number from 0 to 4294967295 after it\n--svg wants the name of a file after it\nthere is no such option, only these: ocean [--svg FILE] [--seed N [SHEET [RESULT]]], or: ocean [--svg FILE] SHEET NOISE WORDS [RESULT]\nthere are more files than SHEET NOISE WORDS RESULT, or with --seed than SHEET RESULT\na sheet wants its noise and its words, as in: ocean SHEET NOISE WORDS, or a seed, as in: ocean --seed 7 SHEET\nwith --seed there is no noise and no words, as in: ocean --seed 7 SHEET RESULT\nRESULT and the picture want names of their own, and one of them has the name of another file here\nthis program takes up to 4,096 cells times patterns, and the sheet has more\nthe name of a file is empty, or longer than 4,096 bytes"

-- what is wrong with what is asked, by the fault's number
unfoldable pub fault_text : ℕ → List ℕ
fault_text fault = ascii "ocean: " ++ line fault faults ++ ascii ".\n"

-- what is wrong with a file, one to a line, from 0 for nothing
unfoldable pub file_faults : List ℕ
file_faults = ascii "\nthere is no such file, or no such folder on the way to it\nthis names a folder, not a file\nthis may not be opened\nthis cannot be opened, read or written\nthis ends within a word, and noise and words are files of 32-bit words\nthis could not be written to its end"

-- the number of a file's fault
abbrev pub file_number : FileFault → ℕ
file_number wrong.Missing = 1
file_number wrong.Folder = 2
file_number wrong.Forbidden = 3
file_number wrong.Unusable = 4
file_number wrong.Cut = 5
file_number wrong.Unwritten = 6

-- a byte of a name as it is shown: a question mark for what would not stay in the line, or would steer a terminal
unfoldable pub shown_byte : ℕ → ℕ
shown_byte b = cond (ltb b 32 || eqb b 127) 63 b

-- a name as it is shown, byte by byte
abbrev pub shown : List ℕ → List ℕ
shown name = map shown_byte name

-- what is wrong with the file of this name, by the fault's number
unfoldable pub file_text : List ℕ → ℕ → List ℕ
file_text name fault = ascii "ocean: " ++ shown name ++ ascii ": " ++ line fault file_faults ++ ascii ".\n"
