-- Laws of the table of logarithms, at every entry, from one test that is computed over the whole of it: strictly ascending,
-- exact at powers of two, the bounds by the 64th power, and that neither a logarithm nor w log w is a NaN or an infinity.
-- Assumes nothing.
use mathlib.Core.Bool.{Bool, ◌&&◌}
use mathlib.Core.List.{List}
use mathlib.Core.Path.{◌≡◌, refl, sym, ap, ◌∙◌, subst, subst⁻¹}
use Prim.Native.Nat.{ℕ, zero, suc, ◌-◌, ◌*◌, ◌^◌, ◌<◌, ◌≤◌, suc-le-suc}
use native.Mathlib.Nat.{not-suc-le-zero}
use native.Mathlib.Numerals.{sub-one, one-add}
use native.Mathlib.Omega.{arith}
use lib.Dec.{T, leb, ltb, eqb, leb→le, ltb→lt, eqb→eq}
use lib.Ieee.{Float, nan, of_bits, to_bits, of_int, mul, lt, binary32}
use lib.Ieee.Bits.{of_bits-to_bits}
use lib.Ieee.Fits.{and_l, and_r, of_int-fits}
use lib.Ieee.Scale.{finite}
use lib.IntN.{pos}
use lib.ListN.{get_or, length, take, length-take, get_or-map}
use lib.Pow.{suc_ones}
use lib.Seq.{take-length, get_or-take}
use Rattle.loops.specs.Tests.{all_to}
use Rattle.logarithms.specs.Floor.{floor64}
use Rattle.logarithms.specs.Logs.{log_bits, logs, log_of, Logs, Front}
use Rattle.logarithms.specs.Entropy.{w_log_w}
use Rattle.loops.proofs.TestLaws.{all-at}
use Rattle.logarithms.proofs.Chain.{whole, entries, neighbours}

-- ---- the test

-- a NaN's bits, which no entry has
past : ℕ
past = 2143289344

-- the bounds by the 64th power, of n and F
fair : ℕ → ℕ → Bool
fair n F = leb (2 ^ F) (2 * n ^ 64) && ltb (n ^ 64) (4 * 2 ^ F)

-- an entry x for n is fair, and it and n times it are finite
sound : ℕ → Float → Bool
unfolding fair floor64 mul of_int
sound n x = fair n (floor64 x) && (finite x && finite (mul binary32 (of_int binary32 (pos n)) x))

sound_bits : ℕ → ℕ → Bool
unfolding sound of_bits
sound_bits n b = sound n (of_bits binary32 b)

less_bits : ℕ → ℕ → Bool
unfolding lt of_bits
less_bits a b = lt (of_bits binary32 a) (of_bits binary32 b)

passes : T (whole sound_bits less_bits 1 log_bits)
unfolding log_bits sound_bits less_bits
passes = tt

-- the entry for 2 ^ k has the bits of k itself
power : ℕ → Bool
unfolding log_bits to_bits of_int
power k = eqb (get_or log_bits (2 ^ k - 1) past) (to_bits binary32 (of_int binary32 (pos k)))

passes_powers : T (all_to 11 power)
unfolding all_to power past
passes_powers = tt

-- ---- the laws

-- the logarithms, as they are lent, are 1,024
pub logs-long : (l : List Float) → Logs l → length l ≡ 1024
unfolding logs
logs-long l e = ap length e

-- the whole of them is a front, a front has no more than 1,024, and its entries are logarithms
pub logs-front : (l : List Float) → Logs l → Front l
logs-front l e = subst⁻¹ (λ (m : List Float). m ≡ take (length m) logs) e (sym (take-length logs))

pub front_long : (l : List Float) → Front l → length l ≤ 1024
front_long l e = omega (arith, ap length e, length-take (length l) logs, logs-long logs refl)

pub front_at : (l : List Float) (n : ℕ) → Front l → 1 ≤ n → n ≤ length l → get_or l (n - 1) nan ≡ log_of n
unfolding log_of
front_at l n e some few = ap (λ (m : List Float). get_or m (n - 1) nan) e ∙ get_or-take (length l) logs (n - 1) nan (omega arith)

at : (k : ℕ) → log_of (suc k) ≡ of_bits binary32 (get_or log_bits k past)
unfolding log_of of_bits past
at k = ap (λ (i : ℕ). get_or logs i nan) (sub-one (suc k)) ∙ get_or-map (of_bits binary32) log_bits k past

sound-at : (n : ℕ) → 1 ≤ n → n ≤ 1024 → T (sound n (log_of n))
unfolding log_bits sound_bits
sound-at zero p h = absurd (not-suc-le-zero p)
sound-at (suc k) p h =
    subst⁻¹ (λ (x : Float). T (sound (suc k) x)) (at k)
    (subst (λ (n : ℕ). T (sound_bits n (get_or log_bits k past))) (one-add k) (entries sound_bits less_bits 1 log_bits past passes k h))

-- strictly ascending
pub log_ascends : (n : ℕ) → 1 ≤ n → n < 1024 → T (lt (log_of n) (log_of (suc n)))
unfolding log_bits less_bits
log_ascends zero p h = absurd (not-suc-le-zero p)
log_ascends (suc k) p h =
    subst⁻¹ (λ (x : Float). T (lt x (log_of (suc (suc k))))) (at k)
    (subst⁻¹ (λ (x : Float). T (lt (of_bits binary32 (get_or log_bits k past)) x)) (at (suc k)) (neighbours sound_bits less_bits 1 log_bits past passes k h))

-- exact at powers of two
pub log_power : (k : ℕ) → k ≤ 10 → log_of (2 ^ k) ≡ of_int binary32 (pos k)
unfolding power
log_power k h =
    ap log_of (sym (suc_ones k)) ∙ at (2 ^ k - 1)
    ∙ ap (of_bits binary32) (eqb→eq (get_or log_bits (2 ^ k - 1) past) (to_bits binary32 (of_int binary32 (pos k))) (all-at power 11 passes_powers k (suc-le-suc h)))
    ∙ of_bits-to_bits binary32 (of_int binary32 (pos k)) (of_int-fits binary32 (pos k))

-- how near an entry is to the logarithm, by its 64-fold without the fraction
pub log_bounds : (n : ℕ) → 1 ≤ n → n ≤ 1024 → (2 ^ floor64 (log_of n) ≤ 2 * n ^ 64) × (n ^ 64 < 4 * 2 ^ floor64 (log_of n))
unfolding sound fair
log_bounds n p h =
    let F = floor64 (log_of n) in
    let t = and_l (fair n F) _ (sound-at n p h) in
    let a = leb (2 ^ F) (2 * n ^ 64) in
    let b = ltb (n ^ 64) (4 * 2 ^ F) in
    (leb→le (2 ^ F) (2 * n ^ 64) (and_l a b t), ltb→lt (n ^ 64) (4 * 2 ^ F) (and_r a b t))

-- a logarithm is finite, and so is w log w
pub log_finite : (n : ℕ) → 1 ≤ n → n ≤ 1024 → T (finite (log_of n))
unfolding sound
log_finite n p h = and_l (finite (log_of n)) _ (and_r (fair n (floor64 (log_of n))) _ (sound-at n p h))

pub w_log_w-finite : (w : ℕ) → 1 ≤ w → w ≤ 1024 → T (finite (w_log_w w))
unfolding sound w_log_w
w_log_w-finite w p h = and_r (finite (log_of w)) _ (and_r (fair w (floor64 (log_of w))) _ (sound-at w p h))
