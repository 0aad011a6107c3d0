-- The arguments of `ocean`: --seed and a number, --svg and a file, and files in their order. Follows docs/RULES.md, "Programs".
-- Assumes nothing.
use Rattle.std.specs.Prelude.{Bool, cond, ◌&&◌, ◌||◌, Option, Some, None, is_some, List, [], ◌∷◌, ◌≡◌, ℕ, zero, suc, ◌+◌, ◌-◌, ◌*◌, ◌^◌, eqb, leb, ltb, length, get_or, set}
use Rattle.std.specs.Cmp.Lexicographic.{pointwise}
use Rattle.text.specs.Pages.{ascii}
use Rattle.command.specs.declared.arguments.Fault.{Fault}
use Rattle.command.specs.declared.arguments.Wait.{Wait}
use Rattle.command.specs.declared.arguments.Kind.{Kind}
use Rattle.command.specs.declared.arguments.Plan.{Plan}
use Rattle.command.specs.declared.arguments.Fault.TheVariants as wrong
use Rattle.command.specs.declared.arguments.Wait.TheVariants as for
use Rattle.command.specs.declared.arguments.Kind.TheVariants as kind

-- the number of a fault's sentence: 1 no seed, 2 no picture's file, 3 another option, 4 too many files, 5 a sheet without noise and words, 6 a seed beside
-- them, 7 a name that two files have, 8 a sheet that is too large, 9 a name that is missing; any other number is its own
abbrev pub fault_number : Fault → ℕ
fault_number wrong.NoSeed = 1
fault_number wrong.NoPicture = 2
fault_number wrong.NoSuchOption = 3
fault_number wrong.TooManyFiles = 4
fault_number wrong.NoNoise = 5
fault_number wrong.SeedAndNoise = 6
fault_number wrong.Clash = 7
fault_number wrong.TooLarge = 8
fault_number wrong.NoName = 9
fault_number (wrong.Other number) = number

-- whether two texts are the same: as long, and the same byte for byte
abbrev pub same_text : List ℕ → List ℕ → Bool
same_text a b = pointwise eqb a b

-- whether a text starts with a dash and goes on, as an option does
abbrev pub dashed : List ℕ → Bool
dashed t = leb 2 (length t) && eqb (get_or t 0 0) 45

-- what an argument is: a file's name, --seed, --svg, or another option
abbrev pub kind_of : List ℕ → Kind
kind_of t =
    cond (same_text t (ascii "--seed")) (kind.Waits for.Seed)
    (cond (same_text t (ascii "--svg")) (kind.Waits for.Picture) (cond (dashed t) kind.Other kind.File))

-- ---- a number

-- one digit more, where it is a digit and the number stays below 2^32
abbrev pub digit_more : ℕ → ℕ → Option ℕ
digit_more value byte = cond (leb 48 byte && leb byte 57 && ltb (value * 10 + (byte - 48)) (2 ^ 32)) (Some (value * 10 + (byte - 48))) None

-- what follows from a number, where there is one
unfoldable pub onward : Option ℕ → (ℕ → Option ℕ) → Option ℕ
onward None k = None
onward (Some n) k = k n

-- the digits of a text after a number
unfoldable pub read_from : List ℕ → ℕ → Option ℕ
read_from [] value = Some value
read_from (b ∷ t) value = onward (digit_more value b) (read_from t)

-- the number that a text holds in decimal
abbrev pub number_in : List ℕ → Option ℕ
number_in t = cond (eqb (length t) 0) None (read_from t 0)

-- ---- the arguments

-- before the first argument
abbrev pub empty_plan : Plan
empty_plan = record { seed = None; svg = None; files = None ∷ None ∷ None ∷ None ∷ []; count = 0; waits = None; fault = None }

abbrev pub with_fault : Plan → Fault → Plan
with_fault p fault = record p { fault = Some fault }

abbrev pub with_wait : Plan → Wait → Plan
with_wait p wait = record p { waits = Some wait }

-- the seed that a text holds
abbrev pub with_number : Plan → Option ℕ → Plan
with_number p None = with_fault p wrong.NoSeed
with_number p (Some seed) = record p { seed = Some seed; waits = None }

abbrev pub with_seed : Plan → List ℕ → Plan
with_seed p text = with_number p (number_in text)

-- the argument that names a file: number 0 is the program's own name, and names none
abbrev pub named : ℕ → Option ℕ
named index = cond (eqb index 0) None (Some index)

-- the picture's file, which is no option
abbrev pub with_svg : Plan → ℕ → List ℕ → Plan
with_svg p index text = cond (dashed text) (with_fault p wrong.NoPicture) (record p { svg = named index; waits = None })

-- a file, after those before it
abbrev pub with_file : Plan → ℕ → Plan
with_file p index =
    cond (ltb p.count 4) (record p { files = set p.files p.count (named index); count = p.count + 1 }) (with_fault p wrong.TooManyFiles)

-- an argument of a kind that no option waits for
abbrev pub with_kind : Plan → ℕ → Kind → Plan
with_kind p index kind.File = with_file p index
with_kind p index (kind.Waits wait) = with_wait p wait
with_kind p index kind.Other = with_fault p wrong.NoSuchOption

abbrev pub with_word : Plan → ℕ → List ℕ → Plan
with_word p index text = with_kind p index (kind_of text)

-- an argument that an option may wait for; where it waits for something else the argument is taken for itself
abbrev pub waited : Plan → ℕ → List ℕ → Option Wait → Plan
waited p index text None = with_word p index text
waited p index text (Some for.Seed) = with_seed p text
waited p index text (Some for.Picture) = with_svg p index text
waited p index text (Some (for.Other number)) = with_word p index text

-- one argument more, by its number and its text; after a fault nothing more is read
abbrev pub stepped : Plan → ℕ → List ℕ → Plan
stepped p index text = cond (is_some p.fault) p (waited p index text p.waits)

-- what is wrong with the files: with a seed there are at most two, and without one a sheet has noise and words beside it
abbrev pub files_fault : Plan → Option Fault
files_fault p =
    cond (is_some p.seed)
    (cond (ltb p.count 3) None (Some wrong.SeedAndNoise))
    (cond (eqb p.count 1 || eqb p.count 2) (Some wrong.NoNoise) None)

-- what an option that still waits lacks
abbrev pub unmet : Plan → Option Wait → Option Fault
unmet p None = files_fault p
unmet p (Some for.Seed) = Some wrong.NoSeed
unmet p (Some for.Picture) = Some wrong.NoPicture
unmet p (Some (for.Other number)) = Some (wrong.Other number)

-- after the last argument: the first fault
abbrev pub fault_of : Plan → Option Fault
fault_of p = cond (is_some p.fault) p.fault (unmet p p.waits)

-- ---- all of them

-- whether a plan comes of another by the argument of this number, whatever its text is
unfoldable pub Taken : Plan → ℕ → Plan → Type 0
Taken p index q = (text : List ℕ) × (q ≡ stepped p index text)

-- whether a plan comes of so many arguments, the first of which has this number: each of them once, in their order
unfoldable pub Asked : ℕ → ℕ → Plan → Type 0
Asked from zero p = p ≡ empty_plan
Asked from (suc n) p = (q : Plan) × Asked from n q × Taken q (from + n) p
