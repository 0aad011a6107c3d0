-- Laws of putting text on a page: texts in a row are one text, a text that fits stands there whole, and a page keeps its length.
-- Assumes nothing.
use mathlib.Core.Bool.{Bool, true, false, cond}
use mathlib.Core.List.{List, [], ◌∷◌, ◌++◌}
use mathlib.Core.Path.{◌≡◌, refl, sym, ap, ◌∙◌}
use Prim.Native.Nat.{ℕ, zero, suc, ◌+◌, ◌≤◌, ◌<◌}
use native.Mathlib.Numerals.{add-one}
use native.Mathlib.Omega.{arith}
use lib.Dec.{ltb}
use lib.ListN.{length, get_or, set, take, drop, replicate, length-set}
use lib.Seq.{sets, sets-eq, take-suc}
use borrow.Author.Tests.{ltb-true, lt-ltb, le-ltb}
use Rattle.loops.specs.Loops.{each}
use Rattle.text.specs.Pages.{Page, page, put_byte, put, page_of, Puts, texts}
use Rattle.text.specs.declared.Page as lent

pub put_none : (p : Page) → put [] p ≡ p
unfolding put each
put_none p = refl

pub put-cons : (b : ℕ) (t : List ℕ) (p : Page) → put (b ∷ t) p ≡ put t (put (b ∷ []) p)
unfolding put each
put-cons b t p = refl

pub put-append : (s t : List ℕ) (p : Page) → put (s ++ t) p ≡ put t (put s p)
unfolding put each
put-append [] t p = refl
put-append (b ∷ s) t p = put-append s t (put_byte b p)

-- no text leaves a page as it is
pub stays : (p : lent.Page) → Puts [] p p
stays p = record { same = refl; is = sym (put_none (page_of p)) }

-- two texts that were put in a row
infixl 4 ◌⨾◌
pub ◌⨾◌ : {s t : List ℕ} {p q r : lent.Page} → Puts s p q → Puts t q r → Puts (s ++ t) p r
◌⨾◌ {s} {t} {p} first next = record {
  same = next.same ∙ first.same;
  is = next.is ∙ ap (put t) first.is ∙ sym (put-append s t (page_of p));
}

-- ---- one byte

pub put-room : (b : ℕ) (l : List ℕ) (at : ℕ) → at < length l → page (set l at b) (at + 1) ≡ put (b ∷ []) (page l at)
unfolding put each put_byte
put-room b l at h = simp (lt-ltb at (length l) h)

pub put_full : (b : ℕ) (l : List ℕ) (at : ℕ) → length l ≤ at → page l at ≡ put (b ∷ []) (page l at)
unfolding put each put_byte
put_full b l at h = simp (le-ltb at (length l) h)

-- ---- one turn more of a loop

pub put-take : (t : List ℕ) (i : ℕ) (p : Page) → i < length t → put (take (i + 1) t) p ≡ put (get_or t i 0 ∷ []) (put (take i t) p)
put-take t i p h = rw (add-one, take-suc t i 0 h) (put-append (take i t) _ p)

replicate_more : (b n : ℕ) → replicate (suc n) b ≡ replicate n b ++ b ∷ []
replicate_more b zero = refl
replicate_more b (suc n) = ap (λ (t : List ℕ). b ∷ t) (replicate_more b n)

pub put-replicate : (b n : ℕ) (p : Page) → put (replicate (n + 1) b) p ≡ put (b ∷ []) (put (replicate n b) p)
put-replicate b n p = rw (add-one, replicate_more b n) (put-append (replicate n b) _ p)

pub put_texts_none : (f : ℕ → List ℕ) (i : ℕ) (p : Page) → put (texts f i 0) p ≡ p
unfolding texts
put_texts_none f i p = put_none p

put-texts_from : (f : ℕ → List ℕ) (i n : ℕ) (p : Page) → put (texts f i (suc n)) p ≡ put (f (i + n)) (put (texts f i n) p)
unfolding texts
put-texts_from f i zero p =
    let here : i + zero ≡ i = omega arith in
    simp (put-append, put_none, here)
put-texts_from f i (suc n) p =
    let place : suc i + n ≡ i + suc n = omega arith in
    put-append (f i) (texts f (suc i) (suc n)) p ∙ put-texts_from f (suc i) n (put (f i) p)
    ∙ ap (λ (k : ℕ). put (f k) (put (texts f (suc i) n) (put (f i) p))) place
    ∙ ap (put (f (i + suc n))) (sym (put-append (f i) (texts f (suc i) n) p))

pub put-texts : (f : ℕ → List ℕ) (n : ℕ) (p : Page) → put (texts f 0 (n + 1)) p ≡ put (f n) (put (texts f 0 n) p)
put-texts f n p =
    let here : 0 + n ≡ n = omega arith in
    rw (add-one n) (rw here at (put-texts_from f 0 n p))

-- the texts up to n, and then that of n
pub one_more : (f : ℕ → List ℕ) (n m : ℕ) {t : List ℕ} {p q r : lent.Page} → m ≡ n + 1 → t ≡ f n → Puts (texts f 0 n) p q → Puts t q r → Puts (texts f 0 m) p r
one_more f n m {t} {p} {q} {r} e at before last =
    let whole : page_of r ≡ put (texts f 0 (n + 1)) (page_of p) = last.is ∙ ap (λ (l : List ℕ). put l (page_of q)) at ∙ ap (put (f n)) before.is ∙ sym (put-texts f n (page_of p)) in
    record { same = last.same ∙ before.same; is = rw e whole }

-- ---- what a page keeps

-- one byte more, by whether there is room
abbrev byte_at : Bool → ℕ → Page → Page
byte_at room b p = cond room (page (set p.bytes p.at b) (p.at + 1)) p

byte-length : (room : Bool) (b : ℕ) (p : Page) → length (byte_at room b p).bytes ≡ length p.bytes
byte-length true b p = length-set p.bytes p.at b
byte-length false b p = refl

byte-within : (room : Bool) (b : ℕ) (p : Page) → ltb p.at (length p.bytes) ≡ room → p.at ≤ length p.bytes → (byte_at room b p).at ≤ length p.bytes
byte-within true b p e h = omega (arith, ltb-true p.at (length p.bytes) e)
byte-within false b p e h = h

pub put-length : (t : List ℕ) (p : Page) → length (put t p).bytes ≡ length p.bytes
unfolding put each put_byte
put-length [] p = refl
put-length (b ∷ t) p = put-length t (put_byte b p) ∙ byte-length (ltb p.at (length p.bytes)) b p

-- the next place is never past the end of the page
pub put-within : (t : List ℕ) (p : Page) → p.at ≤ length p.bytes → (put t p).at ≤ length p.bytes
unfolding put each put_byte
put-within [] p h = h
put-within (b ∷ t) p h =
    let room = ltb p.at (length p.bytes) in
    let same = byte-length room b p in
    rw same at (put-within t (put_byte b p) (rw same (byte-within room b p refl h)))

-- ---- when a text fits

-- a text that fits stands on the page whole, and nothing else has changed
pub put-fits : (t l : List ℕ) (at : ℕ) → at + length t ≤ length l → put t (page l at) ≡ page (take at l ++ t ++ drop (at + length t) l) (at + length t)
put-fits t l at h = stored t l at h ∙ ap (λ (bytes : List ℕ). page bytes (at + length t)) (sets-eq t l at h)
  where
    stored : (t l : List ℕ) (at : ℕ) → at + length t ≤ length l → put t (page l at) ≡ page (sets l at t) (at + length t)
    stored [] l at h = put_none (page l at) ∙ ap (page l) (omega arith)
    stored (b ∷ t) l at h =
        let next : at + 1 ≡ suc at = add-one at in
        let more : suc at + length t ≡ at + suc (length t) = omega arith in
        let fits : suc at + length t ≤ length (set l at b) = rw (length-set l at b) (omega arith) in
        put-cons b t (page l at) ∙ ap (put t) (sym (put-room b l at (omega arith)) ∙ ap (page (set l at b)) next) ∙ stored t (set l at b) (suc at) fits
        ∙ ap (page (sets (set l at b) (suc at) t)) more

-- ---- for the check: one byte, texts in a row, a turn of a loop

pub ruleset one_byte = (put-room, put_full)

pub ruleset in_a_row = (put_none, put-cons, put-append)

pub ruleset turns = (put_none, put_texts_none, put-take, put-replicate, put-texts)
