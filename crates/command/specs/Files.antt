-- The files of a command of `ocean`: which arguments name them, what is wrong with the names, how many words were read. Follows docs/RULES.md, "Programs".
-- Assumes nothing.
use Rattle.std.specs.Prelude.{Bool, cond, not, Option, Some, None, is_some, is_none, ◌&&◌, ◌||◌, List, ℕ, ◌/◌, ◌%◌, eqb, length, get_or}
use Rattle.command.specs.Arguments.{same_text}
use Rattle.command.specs.declared.arguments.Fault.{Fault}
use Rattle.command.specs.declared.arguments.Plan.{Plan}
use Rattle.command.specs.declared.files.Names.{Names}
use Rattle.command.specs.declared.arguments.Fault.TheVariants as wrong

-- ---- which arguments name them

-- the arguments that name the sheet, the noise, the words, the result and the picture
abbrev pub names : Option ℕ → Option ℕ → Option ℕ → Option ℕ → Option ℕ → Names
names sheet noise words result picture =
    record { sheet = sheet; noise = noise; words = words; result = result; picture = picture }

-- the argument that names file number k, counted from 0
abbrev pub file_at : Plan → ℕ → Option ℕ
file_at p k = get_or p.files k None

-- with a seed the files are SHEET and RESULT, without one SHEET, NOISE, WORDS and RESULT
abbrev pub names_of : Plan → Names
names_of p =
    cond (is_some p.seed)
    (names (file_at p 0) None None (file_at p 1) p.svg)
    (names (file_at p 0) (file_at p 1) (file_at p 2) (file_at p 3) p.svg)

-- the seed that noise and words are made from: the one that is given, or 7 for the practice ocean; None where they are read
abbrev pub seed_of : Plan → Option ℕ
seed_of p = cond (is_none p.seed && eqb p.count 0) (Some 7) p.seed

-- ---- which names clash

-- whether a file is named, and another has the same name
abbrev pub shared_name : List ℕ → List ℕ → Bool
shared_name name other = not (eqb (length name) 0) && same_text name other

-- whether a name is that of a file that is read
abbrev pub read_too : List ℕ → List ℕ → List ℕ → List ℕ → Bool
read_too name sheet noise words = shared_name name sheet || shared_name name noise || shared_name name words

-- whether a file that is to be written has the name of one that is read, or of the other one that is to be written
abbrev pub clashes : List ℕ → List ℕ → List ℕ → List ℕ → List ℕ → Bool
clashes sheet noise words result picture =
    shared_name result picture || read_too result sheet noise words || read_too picture sheet noise words

-- ---- what is wrong with the names

-- whether a file is asked for, by its argument, and has no name
abbrev pub nameless : Option ℕ → List ℕ → Bool
nameless index text = is_some index && eqb (length text) 0

-- whether a file that is read has no name
abbrev pub read_nameless : Names → List ℕ → List ℕ → List ℕ → Bool
read_nameless n sheet noise words = nameless n.sheet sheet || nameless n.noise noise || nameless n.words words

-- whether a file that is written or read has no name
abbrev pub any_nameless : Names → List ℕ → List ℕ → List ℕ → List ℕ → List ℕ → Bool
any_nameless n sheet noise words result picture =
    nameless n.result result || nameless n.picture picture || read_nameless n sheet noise words

-- what is wrong: a name that is missing, and then names that clash
abbrev pub names_fault : Names → List ℕ → List ℕ → List ℕ → List ℕ → List ℕ → Option Fault
names_fault n sheet noise words result picture =
    cond (any_nameless n sheet noise words result picture) (Some wrong.NoName) (cond (clashes sheet noise words result picture) (Some wrong.Clash) None)

-- ---- how many words were read

-- how many words so many bytes are; None where they end within one
abbrev pub whole_words : ℕ → Option ℕ
whole_words bytes = cond (eqb (bytes % 4) 0) (Some (bytes / 4)) None

-- how many noise words a file has: where more bytes follow those of 1,024 words it has 1,025, which no grid takes
abbrev pub noise_words : ℕ → Bool → Option ℕ
noise_words bytes more = cond more (Some 1025) (whole_words bytes)
