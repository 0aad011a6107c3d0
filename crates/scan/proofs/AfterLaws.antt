-- Laws of what is accepted: from each state on, which bytes more make a sheet of it.
-- Assumes nothing.
use mathlib.Core.Bool.{Bool, true, false, cond, ◌&&◌, and_assoc}
use mathlib.Core.List.{List, [], ◌∷◌}
use mathlib.Core.Path.{◌≡◌, refl, sym, ap, ◌∙◌}
use Prim.Native.Nat.{ℕ, zero, suc, ◌+◌, ◌-◌, ◌*◌, ◌/◌, ◌≤◌, ◌<◌}
use native.Mathlib.Omega.{arith}
use lib.Dec.{leb, eqb, leb-zero, leb-suc-zero, leb-suc-suc}
use lib.ListN.{length, take, drop, length-drop}
use lib.Seq.{drop-drop}
use borrow.Author.Tests.{leb-true, leb-false, eqb-true, le-leb, eq-eqb}
use Rattle.records.specs.Numbers.{u16At, u32_at}
use Rattle.records.specs.Records.{begins, payload_of, rest_of}
use Rattle.loops.specs.Loops.{each}
use Rattle.scan.specs.declared.inner.Scan.{Scan}
use Rattle.scan.specs.declared.inner.Scan.TheVariants.{Bad, Head}
use Rattle.scan.specs.Scanning.{passing, listing, within, holding, headed, step, past, formed}
use Rattle.loops.proofs.TestLaws.{both}

-- some bytes more make a sheet of it
abbrev pub after : Scan → List ℕ → Bool
after s b = formed (past s b)

-- ---- tests

-- two tests that pass together
pub alike : (s t : Bool) → (s ≡ true → t ≡ true) → (t ≡ true → s ≡ true) → s ≡ t
alike true t f g = sym (f refl)
alike false true f g = g refl
alike false false f g = refl

-- what is asked after a test matters where it passes
pub where_passed : (t : Bool) {x y : Bool} → (t ≡ true → x ≡ y) → t && x ≡ t && y
where_passed true h = h refl
where_passed false h = refl

pub none : (t : Bool) → t && false ≡ false
none true = refl
none false = refl

pub unless : (t : Bool) {x : Bool} → (t ≡ true → x ≡ false) → t && x ≡ false
unless t h = where_passed t h ∙ none t

-- a test by the order of two numbers
pub by_order : (m n : ℕ) {x y : Bool} → (m ≤ n → x ≡ y) → (n < m → x ≡ false) → x ≡ leb m n && y
by_order m n {x} {y} h l = go (leb m n) refl
  where
    go : (t : Bool) → leb m n ≡ t → x ≡ t && y
    go true e = h (leb-true m n e)
    go false e = l (leb-false m n e)

-- ---- bytes that are passed

pub after-bad : (b : List ℕ) → after Bad b ≡ false
unfolding past each step formed
after-bad [] = refl
after-bad (x ∷ b) = after-bad b

pub after-cond : (t : Bool) (s : Scan) (b : List ℕ) → after (cond t s Bad) b ≡ t && after s b
after-cond true s b = refl
after-cond false s b = after-bad b

-- a state that each byte counts down to another
after-down : (f : ℕ → Scan) → ((n x : ℕ) → step x (f (suc n)) ≡ f n) → ((n : ℕ) → formed (f (suc n)) ≡ false) → (n : ℕ) (b : List ℕ)
    → after (f n) b ≡ leb n (length b) && after (f 0) (drop n b)
unfolding past each
after-down f down amid zero b = rw (leb-zero (length b))
after-down f down amid (suc n) [] = amid n ∙ rw (leb-suc-zero n)
after-down f down amid (suc n) (x ∷ b) =
    ap (λ (s : Scan). after s b) (down n x) ∙ after-down f down amid n b ∙ ap (λ (t : Bool). t && after (f 0) (drop n b)) (sym (leb-suc-suc n (length b)))

pub after_passing : (n kind lists : ℕ) (b : List ℕ) → after (passing n kind lists) b ≡ leb n (length b) && after (Head kind lists 0 0) (drop n b)
unfolding step passing formed
after_passing n kind lists b = after-down (λ (m : ℕ). passing m kind lists) (λ m x. refl) (λ m. refl) n b

pub after-within : (n left lists : ℕ) (b : List ℕ) → after (within n left lists) b ≡ leb n (length b) && after (listing left lists) (drop n b)
unfolding step within formed
after-within n left lists b = after-down (λ (m : ℕ). within m left lists) (λ m x. refl) (λ m. refl) n b

-- ---- a record's first six bytes

-- a kind in two bytes
kind-is : (kind x y : ℕ) → kind < 256 → eqb (x + 256 * y) kind ≡ eqb x kind && eqb y 0
kind-is kind x y h =
    alike (eqb (x + 256 * y) kind) (eqb x kind && eqb y 0)
    (λ e. let z : x + 256 * y ≡ kind = eqb-true _ _ e in rw (eq-eqb x kind (omega arith), eq-eqb y 0 (omega arith)))
    (λ e. let (p, q) = both (eqb x kind) (eqb y 0) e in eq-eqb (x + 256 * y) kind (omega (arith, eqb-true x kind p, eqb-true y 0 q)))

-- a length in four, each put in at the top and shifted down
size_is : (a b c d : ℕ)
    → (((0 / 256 + 16777216 * a) / 256 + 16777216 * b) / 256 + 16777216 * c) / 256 + 16777216 * d ≡ a + 256 * b + 65536 * (c + 256 * d)
size_is a b c d = omega arith

after-head : (kind lists : ℕ) → kind < 256 → (b : List ℕ)
    → after (Head kind lists 0 0) b
    ≡ leb 6 (length b) && (eqb (u16At b 4) kind && (leb 2 (u32_at b 0) && after (holding kind lists (u32_at b 0 - 2)) (drop 6 b)))
unfolding past each step headed formed u16At u32_at
after-head kind lists h [] = refl
after-head kind lists h (a ∷ []) = refl
after-head kind lists h (a ∷ b ∷ []) = refl
after-head kind lists h (a ∷ b ∷ c ∷ []) = refl
after-head kind lists h (a ∷ b ∷ c ∷ d ∷ []) = refl
after-head kind lists h (a ∷ b ∷ c ∷ d ∷ e ∷ []) = after-cond (eqb e kind) _ [] ∙ none (eqb e kind)
after-head kind lists h (a ∷ b ∷ c ∷ d ∷ e ∷ f ∷ q) =
    let size = a + 256 * b + 65536 * (c + 256 * d) in
    ap (λ (s : ℕ). after (cond (eqb e kind) (Head kind lists 5 s) Bad) (f ∷ q)) (size_is a b c d)
    ∙ after-cond (eqb e kind) (Head kind lists 5 size) (f ∷ q)
    ∙ ap (λ (t : Bool). eqb e kind && t) (after-cond (eqb f 0 && leb 2 size) (holding kind lists (size - 2)) q)
    ∙ sym (rw (le-leb 6 (length (a ∷ b ∷ c ∷ d ∷ e ∷ f ∷ q)) (omega arith), kind-is kind e f h) (simp and_assoc))

-- ---- a record, by what is asked of its payload and of what follows it

module _ (kind lists : ℕ) (h : kind < 256) (asks : List ℕ → List ℕ → Bool)
    (held : (m : ℕ) (p : List ℕ) → after (holding kind lists m) p ≡ leb m (length p) && asks (take m p) (drop m p)) where
  module _ (b : List ℕ) where
    -- the length is no more than what is left
    size_fits : 6 ≤ length b → leb (u32_at b 0 - 2) (length (drop 6 b)) ≡ leb (u32_at b 0) (length b - 4)
    size_fits six =
        let size = u32_at b 0 in
        let left = length-drop 6 b in
        alike (leb (size - 2) (length (drop 6 b))) (leb size (length b - 4))
        (λ e. le-leb size (length b - 4) (omega (arith, leb-true (size - 2) (length (drop 6 b)) e)))
        (λ e. le-leb (size - 2) (length (drop 6 b)) (omega (arith, leb-true size (length b - 4) e)))

    after-payload : 6 ≤ length b → 2 ≤ u32_at b 0
        → after (holding kind lists (u32_at b 0 - 2)) (drop 6 b) ≡ leb (u32_at b 0) (length b - 4) && asks (payload_of b) (rest_of b)
    unfolding payload_of rest_of
    after-payload six two =
        let size = u32_at b 0 in
        let place : 6 + (size - 2) ≡ 4 + size = omega arith in
        held (size - 2) (drop 6 b) ∙ rw (size_fits six, drop-drop (size - 2) 6 b, place)

    pub after-record : after (Head kind lists 0 0) b ≡ begins kind b && asks (payload_of b) (rest_of b)
    unfolding begins
    after-record = after-head kind lists h b ∙ where_passed (leb 6 (length b)) (λ e. ap (λ (t : Bool). eqb (u16At b 4) kind && t) (fits e)) ∙ simp and_assoc
      where
        fits : leb 6 (length b) ≡ true
            → leb 2 (u32_at b 0) && after (holding kind lists (u32_at b 0 - 2)) (drop 6 b)
            ≡ leb 2 (u32_at b 0) && (leb (u32_at b 0) (length b - 4) && asks (payload_of b) (rest_of b))
        fits e = where_passed (leb 2 (u32_at b 0)) (λ f. after-payload (leb-true 6 (length b) e) (leb-true 2 (u32_at b 0) f))
