-- The worked cases A to K as one table under one claim, by computing: what is called, and what it must come to with every lent slice.
-- Follows docs/RULES.md, "Run". Assumes nothing.
use mathlib.Core.List.{List, [], ◌∷◌, map}
use Rattle.std.specs.Prelude.{Some}
use mathlib.Core.Path.{◌≡◌, refl}
use Prim.Native.Nat.{ℕ, ◌+◌, ◌*◌}
use lib.Ieee.{Float, binary32, of_bits}
use lib.ListN.{replicate}
use Rattle.adjacency.specs.Tables.{Table, table}
use Rattle.grid.specs.Grid.{Grid, grid, cells}
use Rattle.refusals.specs.Refusals.{answer}
use Rattle.consistency.specs.Worklist.{Removal, removal}
use Rattle.forbids.specs.declared.Forbid.{Forbid}
use Rattle.choice.specs.Asked.{choice_of}
use Rattle.course.specs.Course.{last_of}
use Rattle.notes.specs.Blocks.{blocks}
use Rattle.course.specs.Called.{Memory, memory, Outcome, called_of, called}
use Rattle.consistency.proofs.Cases.{checker}

-- three patterns that allow all beside them
abbrev pub free : Table
free =
    table 3 (0 ∷ 3 ∷ 6 ∷ 9 ∷ 12 ∷ 15 ∷ 18 ∷ 21 ∷ 24 ∷ 27 ∷ 30 ∷ 33 ∷ 36 ∷ [])
    (0 ∷ 1 ∷ 2 ∷ 0 ∷ 1 ∷ 2 ∷ 0 ∷ 1 ∷ 2 ∷ 0 ∷ 1 ∷ 2 ∷ 0 ∷ 1 ∷ 2 ∷ 0 ∷ 1 ∷ 2 ∷ 0 ∷ 1 ∷ 2 ∷ 0 ∷ 1 ∷ 2 ∷ 0 ∷ 1 ∷ 2 ∷ 0 ∷ 1 ∷ 2 ∷ 0 ∷ 1 ∷ 2 ∷ 0 ∷ 1 ∷ 2 ∷ [])

abbrev pub forbid : ℕ → ℕ → Forbid
forbid cell pattern = record { cell = cell; pattern = pattern; keep = 0 }

abbrev pub keep_only : ℕ → ℕ → Forbid
keep_only cell pattern = record { cell = cell; pattern = pattern; keep = 1 }

-- what a call is given; the noise words are 0
pub record Call : Type 0 where
  pub table : Table
  pub weights : List ℕ
  pub grid : Grid
  pub forbids : List Forbid
  pub words : List ℕ

abbrev pub call : Table → List ℕ → Grid → List Forbid → List ℕ → Call
call table weights grid forbids words = record { table = table; weights = weights; grid = grid; forbids = forbids; words = words }

-- lent slices of the published lengths, whose entries are n and x but for the domains
abbrev pub lent : Call → ℕ → Float → List ℕ → Memory
lent k n x domains =
    let cs = cells k.grid in
    let P = k.table.count in
    memory domains (replicate (cs * P * 4) n) (replicate (cs * P) n) (replicate (2 * cs) x) (replicate (2 * cs + blocks cs) n)

-- what it comes to, on memory that is full of sevens
unfoldable pub found : Call → Outcome
unfolding called_of
found k =
    called (record { table = k.table; weights = k.weights; grid = k.grid; noise = replicate (cells k.grid) 0 }) k.forbids k.words
    (lent k 7 (of_bits binary32 7) (replicate (cells k.grid) 7))

-- a call with the end, the words used and the domains that it must come to
pub record Case : Type 0 where
  pub asked : Call
  pub end : ℕ
  pub used : ℕ
  pub domains : List ℕ

abbrev pub case : Call → ℕ → ℕ → List ℕ → Case
case asked end used domains = record { asked = asked; end = end; used = used; domains = domains }

-- these, and zeros
unfoldable pub stated : Case → Outcome
stated k = record { told = answer (record { end = k.end; used = k.used }); memory = lent k.asked 0 (of_bits binary32 0) k.domains }

-- every case comes to what is stated
abbrev pub Hold : List Case → Type 0
Hold ks = map (λ k. found k.asked) ks ≡ map stated ks

-- calls that are cited by name
abbrev pub A : Call
A = call checker (1 ∷ 1 ∷ []) (grid 2 1 0) (keep_only 0 0 ∷ []) []

abbrev pub B : Call
B = call checker (1 ∷ 1 ∷ []) (grid 3 1 0) (keep_only 0 0 ∷ []) []

abbrev pub G : Call
G = call free (1 ∷ 1 ∷ 1 ∷ []) (grid 1 1 0) [] (4 ∷ [])

abbrev pub H : Call
H = call free (1 ∷ 1 ∷ 1 ∷ []) (grid 1 1 0) [] []

abbrev pub I : Call
I = call free (1 ∷ 1 ∷ 1 ∷ []) (grid 1 1 0) (forbid 0 2 ∷ []) (4 ∷ [])

abbrev pub K : ℕ → Call
K word = call checker (2 ∷ 3 ∷ []) (grid 1 1 0) [] (word ∷ [])

-- Decided is 0, Undecided 1, Paused 2, Contradiction 3
unfoldable pub cases : List Case
cases =
    case A 0 0 (1 ∷ 2 ∷ [])
    ∷ case B 0 0 (1 ∷ 2 ∷ 1 ∷ [])
    ∷ case (call checker (1 ∷ 1 ∷ []) (grid 3 1 1) (keep_only 0 0 ∷ []) []) 3 0 (0 ∷ 0 ∷ 0 ∷ [])  -- C
    ∷ case (call checker (1 ∷ 1 ∷ []) (grid 1 1 1) [] []) 2 0 (3 ∷ [])  -- D: it stays, though no assignment exists
    ∷ case (call checker (1 ∷ 1 ∷ []) (grid 1 1 1) (keep_only 0 0 ∷ []) []) 3 0 (0 ∷ [])  -- E
    ∷ case (call checker (1 ∷ 1 ∷ []) (grid 1 1 0) (keep_only 0 0 ∷ []) []) 0 0 (1 ∷ [])  -- F
    ∷ case G 0 1 (2 ∷ [])
    ∷ case H 2 0 (7 ∷ [])
    ∷ case I 1 0 (3 ∷ [])  -- the note is stale
    ∷ case (call checker (0 ∷ 0 ∷ []) (grid 1 1 0) [] []) 1 0 (3 ∷ [])  -- J
    ∷ case (K 1) 0 1 (1 ∷ [])  -- the words 1, 2, 4, 5 take the patterns 0, 1, 1, 0
    ∷ case (K 2) 0 1 (2 ∷ [])
    ∷ case (K 4) 0 1 (2 ∷ [])
    ∷ case (K 5) 0 1 (1 ∷ [])
    ∷ []

-- every case of the table holds, and K asked apart from a run too
pub cases-hold : Hold cases × (map (choice_of (2 ∷ 3 ∷ []) 3) (1 ∷ 2 ∷ 4 ∷ 5 ∷ []) ≡ map Some (0 ∷ 1 ∷ 1 ∷ 0 ∷ []))
unfolding cases found stated choice_of
cases-hold = (refl, refl)

-- all that was asked to go in a call, by its forbids and its choices
gone : Call → List Removal
unfolding last_of
gone k = (last_of (record { table = k.table; weights = k.weights; grid = k.grid; noise = replicate (cells k.grid) 0 }) k.forbids k.words).gone

-- by the forbid of A and that of I, by the choice of G, and nothing in H
cases-gone : map gone (A ∷ I ∷ G ∷ H ∷ []) ≡ (removal 0 1 ∷ []) ∷ (removal 0 2 ∷ []) ∷ (removal 0 0 ∷ removal 0 2 ∷ []) ∷ [] ∷ []
unfolding gone
cases-gone = refl
