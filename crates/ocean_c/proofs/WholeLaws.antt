-- A number tells its answer whole: two answers with one number are the same. Follows docs/RULES.md, "Refusals". Assumes nothing.
use mathlib.Core.Bool.{Bool, true, false}
use mathlib.Core.List.{List}
use Rattle.std.specs.Prelude.{Option, None, Some}
use mathlib.Core.Path.{◌≡◌, refl, sym, ap, ◌∙◌}
use Prim.Native.Nat.{ℕ, ◌≤◌, ◌<◌}
use native.Mathlib.Nat.{le_antisymm, le_of_suc-le-suc, lt_of_not-le}
use native.Mathlib.Omega.{arith}
use lib.Dec.{T}
use lib.ListN.{get_or}
use lib.Ieee.{Float, binary32, of_bits, to_bits, fits}
use lib.Ieee.Bits.{of_bits-to_bits}
use Rattle.refusals.specs.declared.Refusal.{Refusal}
use Rattle.refusals.specs.Refusals.{number, Asked, refused, answer}
use Rattle.grid.specs.Answers.{near_of}
use Rattle.starting.specs.declared.Propagated.{Propagated}
use Rattle.starting.specs.Propagate.{propagated_told}
use Rattle.collapse.specs.declared.Stop.{Stop}
use Rattle.course.specs.Called.{End}
use Rattle.run.specs.Answers.{answer_told}
use Rattle.choice.specs.Asked.{choice_told}
use Rattle.sheet.specs.declared.Measures.{Measures}
use Rattle.sheet.specs.Called.{written_told}
use Rattle.ocean_c.specs.Coded.{cased, coded, found_coded, entropy_coded, settled_coded, bytes_coded}
use Rattle.ocean_c.specs.Returned.{measures_of}
use Rattle.refusals.proofs.RefusalLaws.{number-positive, number-most}
use Rattle.grid.proofs.Unique.{near_of-injective}
use Rattle.starting.proofs.PropagateLaws.{propagated_told-injective}
use Rattle.choice.proofs.AskedLaws.{choice_told-injective}
use Rattle.collapse.proofs.EndingLaws.{end_number-most}
use Rattle.run.proofs.AnswerLaws.{answer_told-injective}
use Rattle.sheet.proofs.Unique.{written_told-injective}
use Rattle.starting.specs.declared.Propagated.TheVariants as propagated
use Rattle.std.specs.Prelude.{Result, Ok, Err, Some, None}

-- ---- a case and its value

-- equal numbers of two cases: the one has no greater value than the other
no_more : (a b x y : ℕ) → a < 16777216 → b < 16777216 → cased a x ≡ cased b y → x ≤ y
unfolding cased
no_more a b x y h h' e = le_of_suc-le-suc (lt_of_not-le (λ more. omega (arith, h, h', e, more)))

pub cased-injective : (a b x y : ℕ) → a < 16777216 → b < 16777216 → cased a x ≡ cased b y → (a ≡ b) × (x ≡ y)
unfolding cased
cased-injective a b x y h h' e =
    let values = le_antisymm (no_more a b x y h h' e) (no_more b a y x h' h (sym e)) in
    (omega (arith, e, values), values)

-- a number that names a refusal, and one of a case
abbrev Refuses : ℕ → Type 0
Refuses n = (1 ≤ n) × (n ≤ 11)

-- no case has the number of a refusal
cased-apart : (n a x : ℕ) → Refuses n → n ≡ cased a x → ⊥
unfolding cased
cased-apart n a x h e = omega (arith, h.0, h.1, e)

refuses : (r : Refusal) → Refuses (number r)
refuses r = (omega (arith, number-positive r), number-most r)

-- ---- the numbers of what is told

-- what a call tells: the number of a refusal, or an answer of which something is known
pub Sound : {A : Type 0} → (A → Type 0) → Asked A → Type 0
Sound Q (refused n) = Refuses n
Sound Q (answer x) = Q x

-- anything at all
abbrev pub Any : {A : Type 0} → A → Type 0
Any x = Unit {0}

pub coded-injective : (a b : Asked End) → Sound (λ e. e.end ≤ 3) a → Sound (λ e. e.end ≤ 3) b → coded a ≡ coded b → a ≡ b
unfolding coded Sound
coded-injective (refused n) (refused k) h h' e = ap refused e
coded-injective (refused n) (answer x) h h' e = absurd (cased-apart n x.end x.used h e)
coded-injective (answer x) (refused k) h h' e = absurd (cased-apart k x.end x.used h' (sym e))
coded-injective (answer x) (answer y) h h' e =
    let (ends, words) = cased-injective x.end y.end x.used y.used (omega (arith, h)) (omega (arith, h')) e in
    λ j. answer (record { end = ends j; used = words j })

pub found_coded-injective : (a b : Asked (Option ℕ)) → Sound Any a → Sound Any b → found_coded a ≡ found_coded b → a ≡ b
unfolding found_coded Sound
found_coded-injective (refused n) (refused k) h h' e = ap refused e
found_coded-injective (refused n) (answer (Some v)) h h' e = absurd (cased-apart n 0 v h e)
found_coded-injective (refused n) (answer None) h h' e = absurd (cased-apart n 1 0 h e)
found_coded-injective (answer (Some v)) (refused k) h h' e = absurd (cased-apart k 0 v h' (sym e))
found_coded-injective (answer None) (refused k) h h' e = absurd (cased-apart k 1 0 h' (sym e))
found_coded-injective (answer (Some v)) (answer (Some w)) h h' e = ap (λ (x : ℕ). answer (Some x)) (cased-injective 0 0 v w (omega arith) (omega arith) e).1
found_coded-injective (answer (Some v)) (answer None) h h' e = absurd (omega (arith, (cased-injective 0 1 v 0 (omega arith) (omega arith) e).0))
found_coded-injective (answer None) (answer (Some w)) h h' e = absurd (omega (arith, (cased-injective 1 0 0 w (omega arith) (omega arith) e).0))
found_coded-injective (answer None) (answer None) h h' e = refl

-- binary32 holds the entropy that is told, as it holds every f32
abbrev pub Held : Option Float → Type 0
Held (Some x) = T (fits binary32 x)
Held None = Unit {0}

pub entropy_coded-injective : (a b : Asked (Option Float)) → Sound Held a → Sound Held b → entropy_coded a ≡ entropy_coded b → a ≡ b
unfolding entropy_coded Sound
entropy_coded-injective (refused n) (refused k) h h' e = ap refused e
entropy_coded-injective (refused n) (answer (Some x)) h h' e = absurd (cased-apart n 0 (to_bits binary32 x) h e)
entropy_coded-injective (refused n) (answer None) h h' e = absurd (cased-apart n 1 0 h e)
entropy_coded-injective (answer (Some x)) (refused k) h h' e = absurd (cased-apart k 0 (to_bits binary32 x) h' (sym e))
entropy_coded-injective (answer None) (refused k) h h' e = absurd (cased-apart k 1 0 h' (sym e))
entropy_coded-injective (answer (Some x)) (answer (Some y)) h h' e =
    let bits = (cased-injective 0 0 (to_bits binary32 x) (to_bits binary32 y) (omega arith) (omega arith) e).1 in
    ap (λ (z : Float). answer (Some z)) (sym (of_bits-to_bits binary32 x h) ∙ ap (of_bits binary32) bits ∙ of_bits-to_bits binary32 y h')
entropy_coded-injective (answer (Some x)) (answer None) h h' e =
    absurd (omega (arith, (cased-injective 0 1 (to_bits binary32 x) 0 (omega arith) (omega arith) e).0))
entropy_coded-injective (answer None) (answer (Some y)) h h' e =
    absurd (omega (arith, (cased-injective 1 0 0 (to_bits binary32 y) (omega arith) (omega arith) e).0))
entropy_coded-injective (answer None) (answer None) h h' e = refl

pub settled_coded-injective : (a b : Asked Bool) → Sound Any a → Sound Any b → settled_coded a ≡ settled_coded b → a ≡ b
unfolding settled_coded Sound
settled_coded-injective (refused n) (refused k) h h' e = ap refused e
settled_coded-injective (refused n) (answer false) h h' e = absurd (cased-apart n 0 0 h e)
settled_coded-injective (refused n) (answer true) h h' e = absurd (cased-apart n 1 0 h e)
settled_coded-injective (answer false) (refused k) h h' e = absurd (cased-apart k 0 0 h' (sym e))
settled_coded-injective (answer true) (refused k) h h' e = absurd (cased-apart k 1 0 h' (sym e))
settled_coded-injective (answer false) (answer false) h h' e = refl
settled_coded-injective (answer false) (answer true) h h' e = absurd (omega (arith, (cased-injective 0 1 0 0 (omega arith) (omega arith) e).0))
settled_coded-injective (answer true) (answer false) h h' e = absurd (omega (arith, (cased-injective 1 0 0 0 (omega arith) (omega arith) e).0))
settled_coded-injective (answer true) (answer true) h h' e = refl

pub bytes_coded-injective : (a b : Asked ℕ) → Sound Any a → Sound Any b → bytes_coded a ≡ bytes_coded b → a ≡ b
unfolding bytes_coded Sound
bytes_coded-injective (refused n) (refused k) h h' e = ap refused e
bytes_coded-injective (refused n) (answer x) h h' e = absurd (cased-apart n 0 x h e)
bytes_coded-injective (answer x) (refused k) h h' e = absurd (cased-apart k 0 x h' (sym e))
bytes_coded-injective (answer x) (answer y) h h' e = ap answer (cased-injective 0 0 x y (omega arith) (omega arith) e).1

-- ---- the answers

answer-sound : (a : Result Stop Refusal) → Sound (λ e. e.end ≤ 3) (answer_told a)
unfolding answer_told Sound
answer-sound (Ok stop) = end_number-most stop.end
answer-sound (Err r) = refuses r

pub answer-coded : (a b : Result Stop Refusal) → coded (answer_told a) ≡ coded (answer_told b) → a ≡ b
answer-coded a b e = answer_told-injective a b (coded-injective (answer_told a) (answer_told b) (answer-sound a) (answer-sound b) e)

near-sound : (a : Result (Option ℕ) Refusal) → Sound Any (near_of a)
unfolding near_of Sound
near-sound (Ok near) = tt
near-sound (Err r) = refuses r

pub near-coded : (a b : Result (Option ℕ) Refusal) → found_coded (near_of a) ≡ found_coded (near_of b) → a ≡ b
near-coded a b e = near_of-injective a b (found_coded-injective (near_of a) (near_of b) (near-sound a) (near-sound b) e)

choice-sound : (a : Result (Option ℕ) Refusal) → Sound Any (choice_told a)
unfolding choice_told Sound
choice-sound (Ok (Some p)) = tt
choice-sound (Ok None) = tt
choice-sound (Err r) = refuses r

pub choice-coded : (a b : Result (Option ℕ) Refusal) → found_coded (choice_told a) ≡ found_coded (choice_told b) → a ≡ b
choice-coded a b e = choice_told-injective a b (found_coded-injective (choice_told a) (choice_told b) (choice-sound a) (choice-sound b) e)

propagated-sound : (a : Result Propagated Refusal) → Sound Any (propagated_told a)
unfolding propagated_told Sound
propagated-sound (Ok propagated.Consistent) = tt
propagated-sound (Ok propagated.Contradiction) = tt
propagated-sound (Err r) = refuses r

pub propagated-coded : (a b : Result Propagated Refusal) → settled_coded (propagated_told a) ≡ settled_coded (propagated_told b) → a ≡ b
propagated-coded a b e =
    propagated_told-injective a b (settled_coded-injective (propagated_told a) (propagated_told b) (propagated-sound a) (propagated-sound b) e)

written-sound : (a : Result ℕ Refusal) → Sound Any (written_told a)
unfolding written_told Sound
written-sound (Ok n) = tt
written-sound (Err r) = refuses r

pub bytes-coded : (a b : Result ℕ Refusal) → bytes_coded (written_told a) ≡ bytes_coded (written_told b) → a ≡ b
bytes-coded a b e = written_told-injective a b (bytes_coded-injective (written_told a) (written_told b) (written-sound a) (written-sound b) e)

-- what a sheet holds is known by its six numbers
pub measures-whole : (m n : Measures) → measures_of m ≡ measures_of n → m ≡ n
unfolding measures_of
measures-whole m n e =
    let at : (k : ℕ) → get_or (measures_of m) k 0 ≡ get_or (measures_of n) k 0 = λ k. ap (λ (l : List ℕ). get_or l k 0) e in
    λ j. record { count = at 0 j; ids = at 1 j; width = at 2 j; height = at 3 j; mode = at 4 j; forbids = at 5 j }
