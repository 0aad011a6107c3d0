-- Laws of the sentences: each is one line.
-- Assumes nothing.
use mathlib.Core.Bool.{Bool, true, false, cond, ◌||◌}
use mathlib.Core.List.{List, [], ◌∷◌, ◌++◌, append_assoc}
use mathlib.Core.Path.{◌≡◌, refl, sym, ap, ◌∙◌}
use Prim.Native.Nat.{ℕ, zero, suc, ◌+◌, ◌/◌, ◌%◌, ◌<◌}
use native.Mathlib.Omega.{arith}
use lib.Dec.{ltb, eqb}
use lib.ListN.{length, get_or, take}
use borrow.Author.Tests.{ne_eqb, ltb-false, eqb-false}
use Rattle.text.specs.Numbers.{digits, decimal}
use Rattle.std.proofs.lemmas.List.{map_more}
use Rattle.text.specs.Pages.{Page, put, ascii, line}
use Rattle.text.proofs.PageLaws.{put-append}
use Rattle.directions.specs.Directions.{opposite}
use Rattle.faults.specs.declared.inner.Place.{Place}
use Rattle.command.specs.Places.{ways, backs, list_text, half_text, pair_text, forbid_text, where_text}
use Rattle.command.specs.Sentences.{sentences, refusal_text, faults, fault_text, shown_byte, shown, file_faults, file_text}
use Rattle.directions.proofs.DirectionLaws.{of_four}
use Rattle.faults.specs.declared.inner.Place.TheVariants as at

-- ---- a name, byte by byte

pub shown_more : (name : List ℕ) (i : ℕ) (p : Page) → i < length name → put (shown (take (i + 1) name)) p ≡ put (shown_byte (get_or name i 0) ∷ []) (put (shown (take i name)) p)
shown_more name i p h = rw (map_more shown_byte name i 0 h) (put-append (shown (take i name)) _ p)

-- ---- one line

-- a text that does not end a line: what comes after it is in the same one
abbrev Plain : List ℕ → Type 0
Plain s = (t : List ℕ) → line 0 (s ++ t) ≡ s ++ line 0 t

-- a text that is one line: its first line and the end of that are all of it
abbrev OneLine : List ℕ → Type 0
OneLine t = line 0 t ++ (10 ∷ []) ≡ t

plain_none : Plain []
plain_none t = refl

plain-cons : (b : ℕ) (s : List ℕ) → (b ≡ 10 → ⊥) → Plain s → Plain (b ∷ s)
unfolding line
plain-cons b s n e t = simp (ne_eqb b 10 n) (ap (λ (l : List ℕ). b ∷ l) (e t))

plain-append : (s t : List ℕ) → Plain s → Plain t → Plain (s ++ t)
plain-append s t d e u =
    ap (line 0) (append_assoc s t u) ∙ d (t ++ u) ∙ ap (λ (l : List ℕ). s ++ l) (e u) ∙ sym (append_assoc s t (line 0 u))

one_line : (s t : List ℕ) → Plain s → OneLine t → OneLine (s ++ t)
one_line s t d e =
    ap (λ (l : List ℕ). l ++ (10 ∷ [])) (d t) ∙ append_assoc s (line 0 t) (10 ∷ []) ∙ ap (λ (l : List ℕ). s ++ l) e

-- a byte of a line, by whether it ends it
plain_byte : (end : Bool) (b : ℕ) (s : List ℕ) → eqb b 10 ≡ end → Plain s → Plain (cond end [] (b ∷ s))
plain_byte true b s e d = plain_none
plain_byte false b s e d = plain-cons b s (eqb-false b 10 e) d

plain-pass : (end : Bool) (s t : List ℕ) → Plain s → Plain t → Plain (cond end s t)
plain-pass true s t d e = d
plain-pass false s t d e = e

plain-line : (k : ℕ) (t : List ℕ) → Plain (line k t)
unfolding line
plain-line zero [] = plain_none
plain-line (suc k) [] = plain_none
plain-line zero (b ∷ t) = plain_byte (eqb b 10) b (line zero t) refl (plain-line zero t)
plain-line (suc k) (b ∷ t) = plain-pass (eqb b 10) (line k t) (line (suc k) t) (plain-line k t) (plain-line (suc k) t)

plain-digits : (places n : ℕ) → Plain (digits places n)
unfolding digits
plain-digits zero n = plain_none
plain-digits (suc places) n =
    plain-append
    (cond (ltb n 10) [] (digits places (n / 10)))
    ((48 + n % 10) ∷ [])
    (plain-pass (ltb n 10) [] (digits places (n / 10)) plain_none (plain-digits places (n / 10)))
    (plain-cons (48 + n % 10) [] (λ e. omega arith) plain_none)

-- no byte that is shown ends a line
shown-stays : (b : ℕ) → shown_byte b ≡ 10 → ⊥
unfolding shown_byte
shown-stays b = stays (ltb b 32) (eqb b 127) refl
  where
    stays : (low delete : Bool) → ltb b 32 ≡ low → cond (low || delete) 63 b ≡ 10 → ⊥
    stays true delete e h = omega arith
    stays false true e h = omega arith
    stays false false e h = omega (arith, ltb-false b 32 e)

plain-shown : (name : List ℕ) → Plain (shown name)
plain-shown [] = plain_none
plain-shown (b ∷ name) = plain-cons (shown_byte b) (shown name) (shown-stays b) (plain-shown name)

-- where a sheet is wrong does not end the line

plain-list : (p d : ℕ) → Plain (list_text p d)
unfolding list_text decimal line
plain-list p d =
    let a = ascii ": what may stand " ++ line d ways in
    let b = a ++ ascii " of pattern " in
    let start = plain-append (ascii ": what may stand ") (line d ways) (λ t. refl) (plain-line d ways) in
    plain-append b (decimal p) (plain-append a (ascii " of pattern ") start (λ t. refl)) (plain-digits 20 p)

plain-half : (start : List ℕ) (q : ℕ) (verb names : List ℕ) (d p : ℕ) → Plain start → Plain verb → Plain (half_text start q verb names d p)
unfolding half_text decimal line
plain-half start q verb names d p e f =
    let a = start ++ decimal q in
    let b = a ++ verb in
    let c = b ++ line d names in
    let one = plain-append start (decimal q) e (plain-digits 20 q) in
    let way = plain-append b (line d names) (plain-append a verb one f) (plain-line d names) in
    plain-append (c ++ ascii " of ") (decimal p) (plain-append c (ascii " of ") way (λ t. refl)) (plain-digits 20 p)

plain-forbid : (i : ℕ) (names : List ℕ) (n : ℕ) → Plain names → Plain (forbid_text i names n)
unfolding forbid_text decimal line
plain-forbid i names n e =
    let a = ascii ": forbid " ++ decimal i in
    let start = plain-append (ascii ": forbid ") (decimal i) (λ t. refl) (plain-digits 20 i) in
    plain-append (a ++ names) (decimal n) (plain-append a names start e) (plain-digits 20 n)

plain-place : (place : Place) → Plain (where_text place)
unfolding where_text pair_text line
plain-place at.Nowhere = plain_none
plain-place (at.List p d) = plain-list p d
plain-place (at.Pair p d q) =
    plain-append
    (half_text (ascii ": ") q (ascii " may stand ") ways d p)
    (half_text (ascii ", but not ") p (ascii " ") backs d q)
    (plain-half (ascii ": ") q (ascii " may stand ") ways d p (λ t. refl) (λ t. refl))
    (plain-half (ascii ", but not ") p (ascii " ") backs d q (λ t. refl) (λ t. refl))
plain-place (at.Cell i c) = plain-forbid i (ascii " names cell ") c (λ t. refl)
plain-place (at.Pattern i p) = plain-forbid i (ascii " names pattern ") p (λ t. refl)

-- the name that stands for an opposite is that of the opposite
pub back-name : (d : ℕ) → d < 4 → line d backs ≡ line (opposite d) ways
unfolding line backs ways opposite
back-name = of_four (λ d. line d backs ≡ line (opposite d) ways) refl refl refl refl

-- each sentence is one line, whatever its number and its place, and whatever bytes the name of a file has

pub refusal-one-line : (number : ℕ) (place : Place) → OneLine (refusal_text number place)
unfolding refusal_text decimal line
refusal-one-line number place =
    let a = ascii "ocean: refused: " ++ decimal number in
    let b = a ++ (32 ∷ []) in
    let c = b ++ line number sentences in
    let start = plain-append (ascii "ocean: refused: ") (decimal number) (λ t. refl) (plain-digits 20 number) in
    let space = plain-append a (32 ∷ []) start (λ t. refl) in
    let sentence = plain-append b (line number sentences) space (plain-line number sentences) in
    one_line (c ++ where_text place) (ascii ".\n") (plain-append c (where_text place) sentence (plain-place place)) refl

pub fault_one_line : (fault : ℕ) → OneLine (fault_text fault)
unfolding fault_text line
fault_one_line fault =
    one_line
    (ascii "ocean: " ++ line fault faults)
    (ascii ".\n")
    (plain-append (ascii "ocean: ") (line fault faults) (λ t. refl) (plain-line fault faults))
    refl

pub file_one_line : (name : List ℕ) (fault : ℕ) → OneLine (file_text name fault)
unfolding file_text line
file_one_line name fault =
    let a = ascii "ocean: " ++ shown name in
    let b = a ++ ascii ": " in
    let start = plain-append (ascii "ocean: ") (shown name) (λ t. refl) (plain-shown name) in
    let colon = plain-append a (ascii ": ") start (λ t. refl) in
    one_line (b ++ line fault file_faults) (ascii ".\n") (plain-append b (line fault file_faults) colon (plain-line fault file_faults)) refl
