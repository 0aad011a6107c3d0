-- Laws of writing: parts one after the other are the whole, and a whole from the front is what stands over the rest.
-- Assumes nothing.
use mathlib.Core.List.{List, [], ◌∷◌, ◌++◌, append-nil}
use mathlib.Core.Path.{◌≡◌, refl, sym, ap, ◌∙◌}
use Prim.Native.Nat.{ℕ, suc, ◌+◌, ◌≤◌}
use native.Mathlib.Omega.{arith}
use lib.ListN.{length, set, length-append, drop_of_length-le}
use lib.Seq.{sets, sets-eq, length-sets}
use Rattle.records.specs.Laying.{over, Pen, pen, laid}

-- a list that is written in two parts
pub sets-append : (new more old : List ℕ) (i : ℕ) → sets old i (new ++ more) ≡ sets (sets old i new) (i + length new) more
sets-append [] more old i = ap (λ (k : ℕ). sets old k more) (omega arith)
sets-append (x ∷ new) more old i =
    sets-append new more (set old i x) (suc i) ∙ ap (λ (k : ℕ). sets (sets (set old i x) (suc i) new) k more) (omega arith)

pub laid-append : (new more : List ℕ) (p : Pen) → laid (new ++ more) p ≡ laid more (laid new p)
unfolding laid
laid-append new more p =
    ap (λ (l : List ℕ). pen l (p.place + length (new ++ more))) (sets-append new more p.slice p.place)
    ∙ ap (pen (sets (sets p.slice p.place new) (p.place + length new) more)) (omega (arith, length-append new more))

-- the pen moves on by what it wrote, in a slice that stays as long
pub laid-length : (new : List ℕ) (p : Pen) → length (laid new p).slice ≡ length p.slice
unfolding laid
laid-length new p = length-sets p.slice p.place new

pub laid-place : (new : List ℕ) (p : Pen) → (laid new p).place ≡ p.place + length new
unfolding laid
laid-place new p = refl

pub laid_one : (x : ℕ) (slice : List ℕ) (i : ℕ) → pen (set slice i x) (i + 1) ≡ laid (x ∷ []) (pen slice i)
unfolding laid
laid_one x slice i = refl

pub laid_none : (p : Pen) → laid [] p ≡ p
unfolding laid
laid_none p = ap (pen p.slice) (omega arith)

-- what an equation of pens says of the slice's length and of the place
module _ (new old : List ℕ) (at : ℕ) {slice : List ℕ} {place : ℕ} (e : pen slice place ≡ laid new (pen old at)) where
  pub pen-length : length slice ≡ length old
  pen-length = ap (λ (p : Pen). length p.slice) e ∙ laid-length new (pen old at)

  pub pen-place : place ≡ at + length new
  pen-place = ap (λ (p : Pen). p.place) e ∙ laid-place new (pen old at)

-- written from the front, the rest stays
pub sets_over : (new old : List ℕ) → length new ≤ length old → sets old 0 new ≡ over new old
unfolding over
sets_over new old h =
    let k : 0 + length new ≡ length new = omega arith in
    sets-eq new old 0 (omega arith) ∙ rw k

-- where nothing stands past them, all is new
pub over-whole : (new old : List ℕ) → length new ≡ length old → over new old ≡ new
unfolding over
over-whole new old e =
    let past : length old ≤ length new = omega arith in
    ap (λ (l : List ℕ). new ++ l) (drop_of_length-le old past) ∙ append-nil new

pub laid-over : (new old : List ℕ) → length new ≤ length old → laid new (pen old 0) ≡ pen (over new old) (length new)
unfolding laid
laid-over new old h =
    let k : 0 + length new ≡ length new = omega arith in
    rw (sets_over new old h, k)

-- parts that are written one after the other
pub laid_then : (new more old : List ℕ) (at : ℕ) {slice₁ slice₂ : List ℕ} {place₁ place₂ : ℕ}
    → pen slice₁ place₁ ≡ laid new (pen old at) → pen slice₂ place₂ ≡ laid more (pen slice₁ place₁) → pen slice₂ place₂ ≡ laid (new ++ more) (pen old at)
laid_then new more old at e f = f ∙ ap (laid more) e ∙ sym (laid-append new more (pen old at))

-- a loop that writes part by part: what is left is the part that a turn wrote, and what is left then
pub laid-turn : (whole part rest out : List ℕ) (place : ℕ) {out' : List ℕ} {place' : ℕ} {R : Pen} → whole ≡ part ++ rest
    → pen out' place' ≡ laid part (pen out place) → laid whole (pen out place) ≡ R → laid rest (pen out' place') ≡ R
laid-turn whole part rest out place e f inv = ap (laid rest) f ∙ sym (laid-append part rest (pen out place)) ∙ sym (ap (λ (l : List ℕ). laid l (pen out place)) e) ∙ inv

-- so there is room for what is left
pub laid-room : (rest whole out old : List ℕ) (place at : ℕ) → laid rest (pen out place) ≡ laid whole (pen old at)
    → (length out ≡ length old) × (place + length rest ≡ at + length whole)
laid-room rest whole out old place at e = (
  sym (laid-length rest (pen out place)) ∙ ap (λ (p : Pen). length p.slice) e ∙ laid-length whole (pen old at),
  sym (laid-place rest (pen out place)) ∙ ap (λ (p : Pen). p.place) e ∙ laid-place whole (pen old at),
)

-- what was written are the bytes that it is said to be
pub laid_as : (p : Pen) {bytes new : List ℕ} {q : Pen} → q ≡ laid bytes p → bytes ≡ new → q ≡ laid new p
laid_as p e f = e ∙ ap (λ (l : List ℕ). laid l p) f
