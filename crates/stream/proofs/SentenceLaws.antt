-- Laws of what `replay` says: a sentence ends within its page, and stands whole on one of 64 bytes or more.
-- Assumes nothing.
use mathlib.Core.List.{List, ◌++◌}
use mathlib.Core.Path.{◌≡◌, refl, ap, ◌∙◌}
use Prim.Native.Nat.{ℕ, zero, suc, ◌+◌, ◌≤◌}
use native.Mathlib.Omega.{arith}
use lib.ListN.{length, take, drop}
use lib.Seq.{take-append_seam}
use Rattle.text.specs.Pages.{Page, page, put, line}
use Rattle.text.proofs.PageLaws.{put-within, put-fits}
use Rattle.stream.specs.Sentences.{reasons, reason_text}

pub said-within : (t l l' : List ℕ) (r : ℕ) → page l' r ≡ put t (page l 0) → r ≤ length l
said-within t l l' r e =
    let start : 0 ≤ length l = omega arith in
    let within : (put t (page l 0)).at ≤ length l = put-within t (page l 0) start in
    let same : r ≡ (put t (page l 0)).at = ap (λ (p : Page). p.at) e in
    omega (arith, within, same)

reason_short : (k : ℕ) → length (reason_text k) ≤ 64
unfolding reason_text reasons line
reason_short zero =
    let n : length (reason_text 0) ≡ 40 = refl in
    omega (arith, n)
reason_short (suc zero) =
    let n : length (reason_text 1) ≡ 34 = refl in
    omega (arith, n)
reason_short (suc (suc zero)) =
    let n : length (reason_text 2) ≡ 40 = refl in
    omega (arith, n)
reason_short (suc (suc (suc k))) =
    let n : length (reason_text (suc (suc (suc k)))) ≡ 9 = refl in
    omega (arith, n)

-- what stands before the next place is the sentence
pub said-whole : (k : ℕ) (l l' : List ℕ) (r : ℕ) → 64 ≤ length l → page l' r ≡ put (reason_text k) (page l 0) → take r l' ≡ reason_text k
said-whole k l l' r h e =
    let t = reason_text k in
    let fits : 0 + length t ≤ length l = omega (arith, reason_short k) in
    let same : 0 + length t ≡ length t = omega arith in
    let rest = drop (0 + length t) l in
    ap (λ (p : Page). take p.at p.bytes) (e ∙ put-fits t l 0 fits) ∙ ap (λ (n : ℕ). take n (t ++ rest)) same ∙ take-append_seam t rest
