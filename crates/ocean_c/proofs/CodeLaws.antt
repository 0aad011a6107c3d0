-- Laws of an answer as one number: the number of each case, by what the answer tells. Follows docs/RULES.md, "Refusals". Assumes nothing.
use Rattle.std.specs.Prelude.{Option, None, Some}
use mathlib.Core.Path.{◌≡◌, refl, sym, ap, subst, ◌∙◌}
use Prim.Native.Nat.{ℕ, ◌+◌, ◌*◌, ◌≤◌, ◌<◌}
use native.Mathlib.Omega.{arith}
use lib.Ieee.{Float, binary32, to_bits}
use Rattle.refusals.specs.declared.Refusal.{Refusal}
use Rattle.refusals.specs.Refusals.{number, Asked, refused, answer}
use Rattle.starting.specs.declared.Propagated.{Propagated}
use Rattle.starting.specs.Propagate.{propagated_told}
use Rattle.std.specs.Prelude.{Result, Ok, Err}
use Rattle.collapse.specs.declared.Stop.{Stop}
use Rattle.collapse.specs.Endings.{end_number}
use Rattle.course.specs.Called.{End}
use Rattle.run.specs.Answers.{answer_told}
use Rattle.sheet.specs.declared.Measures.{Measures}
use Rattle.sheet.specs.Called.{sizes_told, written_told}
use Rattle.ocean_c.specs.Coded.{cased, coded, found_coded, entropy_coded, settled_coded, bytes_coded, accepted_coded, used_in, bytes_in}
use Rattle.starting.specs.declared.Propagated.TheVariants as propagated

-- the number as the code makes it
pub cased-is : (case value : ℕ) → 256 * case + 4294967296 * value ≡ cased case value
unfolding cased
cased-is case value = refl

-- ---- a run

abbrev end_of : ℕ → ℕ → Asked End
end_of end used = answer (record { end = end; used = used })

-- what an answer tells
pub told-ended : {a : Result Stop Refusal} {stop : Stop} → a ≡ Ok stop → answer_told a ≡ end_of (end_number stop.end) stop.used
unfolding answer_told
told-ended e = ap answer_told e

pub refused-coded : {a : Result Stop Refusal} {r : Refusal} {n : ℕ} → a ≡ Err r → n ≡ number r → n ≡ coded (answer_told a)
unfolding answer_told coded
refused-coded e k = k ∙ sym (ap (λ (x : Result Stop Refusal). coded (answer_told x)) e)

-- an end with so many words used, of an answer that tells it
pub end-few : {a : Asked End} {end used : ℕ} → a ≡ end_of end used → used_in a ≤ 1024 → used < 4294967296
unfolding used_in
end-few {a} {end} {used} e h = let few : used ≤ 1024 = subst (λ (x : Asked End). used_in x ≤ 1024) e h in omega (arith, few)

pub end-coded : {a : Asked End} {end used case n : ℕ} → a ≡ end_of end used → case ≡ end → n ≡ cased case used → n ≡ coded a
unfolding coded
end-coded {a} {end} {used} e c k = k ∙ ap (λ (m : ℕ). cased m used) c ∙ sym (ap coded e)

-- ---- what is asked apart from a run

pub found-coded : {o : Asked (Option ℕ)} {k n : ℕ} → answer (Some k) ≡ o → n ≡ cased 0 k → n ≡ found_coded o
unfolding found_coded
found-coded is e = e ∙ ap found_coded is

pub none_coded : {o : Asked (Option ℕ)} {n : ℕ} → answer None ≡ o → n ≡ cased 1 0 → n ≡ found_coded o
unfolding found_coded
none_coded is e = e ∙ ap found_coded is

pub unfound_coded : {o : Asked (Option ℕ)} {k n : ℕ} → refused k ≡ o → n ≡ k → n ≡ found_coded o
unfolding found_coded
unfound_coded is e = e ∙ ap found_coded is

pub entropy-coded : {o : Asked (Option Float)} {x : Float} {n : ℕ} → answer (Some x) ≡ o → n ≡ cased 0 (to_bits binary32 x) → n ≡ entropy_coded o
unfolding entropy_coded
entropy-coded is e = e ∙ ap entropy_coded is

pub no-entropy-coded : {o : Asked (Option Float)} {n : ℕ} → answer None ≡ o → n ≡ cased 1 0 → n ≡ entropy_coded o
unfolding entropy_coded
no-entropy-coded is e = e ∙ ap entropy_coded is

pub unasked-coded : {o : Asked (Option Float)} {k n : ℕ} → refused k ≡ o → n ≡ k → n ≡ entropy_coded o
unfolding entropy_coded
unasked-coded is e = e ∙ ap entropy_coded is

-- ---- propagation

pub consistent-coded : {a : Result Propagated Refusal} {p : Propagated} {n : ℕ} → a ≡ Ok p → p ≡ propagated.Consistent → n ≡ cased 0 0 → n ≡ settled_coded (propagated_told a)
unfolding settled_coded propagated_told
consistent-coded e q k = k ∙ sym (ap (λ (x : Result Propagated Refusal). settled_coded (propagated_told x)) (e ∙ ap Ok q))

pub contradiction_coded : {a : Result Propagated Refusal} {p : Propagated} {n : ℕ} → a ≡ Ok p → p ≡ propagated.Contradiction → n ≡ cased 1 0 → n ≡ settled_coded (propagated_told a)
unfolding settled_coded propagated_told
contradiction_coded e q k = k ∙ sym (ap (λ (x : Result Propagated Refusal). settled_coded (propagated_told x)) (e ∙ ap Ok q))

pub unsettled_coded : {a : Result Propagated Refusal} {r : Refusal} {n : ℕ} → a ≡ Err r → n ≡ number r → n ≡ settled_coded (propagated_told a)
unfolding settled_coded propagated_told
unsettled_coded e k = k ∙ sym (ap (λ (x : Result Propagated Refusal). settled_coded (propagated_told x)) e)

-- ---- a sheet that is read

pub read-coded : {a : Result Measures Refusal} {m : Measures} → a ≡ Ok m → 0 ≡ accepted_coded (sizes_told a)
unfolding accepted_coded sizes_told
read-coded e = sym (ap (λ (x : Result Measures Refusal). accepted_coded (sizes_told x)) e)

pub unread-coded : {a : Result Measures Refusal} {r : Refusal} {n : ℕ} → a ≡ Err r → n ≡ number r → n ≡ accepted_coded (sizes_told a)
unfolding accepted_coded sizes_told
unread-coded e k = k ∙ sym (ap (λ (x : Result Measures Refusal). accepted_coded (sizes_told x)) e)

-- ---- a sheet that is written

pub bytes-few : {a : Result ℕ Refusal} {bytes : ℕ} → a ≡ Ok bytes → bytes_in (written_told a) ≤ 41376 → bytes < 4294967296
unfolding bytes_in written_told
bytes-few {a} {bytes} e h = let few : bytes ≤ 41376 = subst (λ (x : Result ℕ Refusal). bytes_in (written_told x) ≤ 41376) e h in omega (arith, few)

pub written-coded : {a : Result ℕ Refusal} {bytes n : ℕ} → a ≡ Ok bytes → n ≡ cased 0 bytes → n ≡ bytes_coded (written_told a)
unfolding bytes_coded written_told
written-coded e k = k ∙ sym (ap (λ (x : Result ℕ Refusal). bytes_coded (written_told x)) e)

pub unwritten-coded : {a : Result ℕ Refusal} {r : Refusal} {n : ℕ} → a ≡ Err r → n ≡ number r → n ≡ bytes_coded (written_told a)
unfolding bytes_coded written_told
unwritten-coded e k = k ∙ sym (ap (λ (x : Result ℕ Refusal). bytes_coded (written_told x)) e)
