-- Laws of a sheet that is read from the stream: the state that some bytes and then others lead to, and what is held of them all.
-- Assumes nothing.
use mathlib.Core.Bool.{true, false, false≢true}
use native.Mathlib.Nat.{min-eq_left, min-eq_right}
use lib.Dec.{leb}
use lib.Seq.{take_all}
use borrow.Author.Tests.{leb-true, leb-false}
use Rattle.std.proofs.Common.{Bool, Result, Ok, Err, IsErr, List, [], ◌++◌, ◌≡◌, ℕ, ◌+◌, ◌-◌, ◌<◌, ◌≤◌, min, length, get_or, take, drop, refl, sym, ap, ◌∙◌, arith}
use Rattle.std.proofs.lemmas.List.{length-append, length-take, take-append-drop}
use Rattle.std.proofs.Math.Seq.{take-append_seam}
use Rattle.scan.specs.declared.inner.Scan.{Scan}
use Rattle.scan.specs.Scanning.{start, past, formed, Scanned}
use Rattle.bounded.specs.Laid.{Front}
use Rattle.stream.specs.declared.inner.CutOff.{CutOff}
use Rattle.replay.specs.Input.{Led, Rest, Whole}
use Rattle.scan.proofs.ScanLaws.{past-append, scanned_none, scanned_more, scanned-formed}

abbrev Bytes : List ℕ → Type 0
Bytes b = (k : ℕ) → get_or b k 0 < 256

-- a part of which no more is taken than there is
take-least : (n k : ℕ) (l : List ℕ) → k ≡ min n (length l) → take k l ≡ take n l
take-least n k l e = go (leb n (length l)) refl
  where
    go : (v : Bool) → leb n (length l) ≡ v → take k l ≡ take n l
    go true t = ap (λ (x : ℕ). take x l) (e ∙ min-eq_left (leb-true n (length l) t))
    go false f =
        let less : length l ≤ n = omega (arith, leb-false n (length l) f) in
        take_all k l (omega (arith, e ∙ min-eq_right less)) ∙ sym (take_all n l less)

-- ---- where bytes lead

pub led_none : (s : Scan) {n : ℕ} → n ≡ 0 → Led n s s
unfolding past
led_none s e = record { sent = []; bytes = scanned_none.bytes; long = sym e; leads = refl }

pub led_more : {n k m : ℕ} {s t u : Scan} → Led n s t → (c : List ℕ) → Bytes c → u ≡ past t c → length c ≡ k → n + k ≡ m → Led m s u
led_more {s = s} L c h e long sum =
    let S : Scanned L.sent (past start L.sent) = record { bytes = L.bytes; state = refl } in
    record {
      sent = L.sent ++ c;
      bytes = (scanned_more S c h refl).bytes;
      long = omega (arith, length-append L.sent c, L.long);
      leads = e ∙ ap (λ (v : Scan). past v c) L.leads ∙ sym (past-append s L.sent c);
    }

pub rest-formed : {n m : ℕ} {s t : Scan} {v : Bool} → Led n s t → n ≡ m → v ≡ formed t → Rest m s (Ok v)
unfolding Rest
rest-formed {t = t} L e f = (t, record { sent = L.sent; bytes = L.bytes; long = L.long ∙ e; leads = L.leads }, f)

pub rest-cut : (m : ℕ) (s : Scan) (r : Result Bool CutOff) → IsErr r → Rest m s r
unfolding Rest
rest-cut m s (Ok v) h = absurd (false≢true h)
rest-cut m s (Err e) h = tt

-- ---- what is held

pub whole-cut : (m : ℕ) (memory : List ℕ) (r : Result Bool CutOff) → IsErr r → Whole m memory r
unfolding Whole
whole-cut m memory (Ok v) h = absurd (false≢true h)
whole-cut m memory (Err e) h = tt

-- memory stays as long when its front is filled
pub kept-long : (out memory : List ℕ) (k : ℕ) {n : ℕ} → length memory ≡ n → length out ≡ length (take k memory) → length (out ++ drop k memory) ≡ n
kept-long out memory k e f =
    omega (arith, e, f, length-append out (drop k memory), length-append (take k memory) (drop k memory), ap length (take-append-drop k memory))

-- the front that is kept, and the rest
module _ (many kept : ℕ) (memory : List ℕ) (room : length memory ≡ 90273) (e : kept ≡ min many 90273) where
  pub whole-read : {s₀ s : Scan} → s₀ ≡ start → Bytes (take kept memory) → s ≡ past s₀ (take kept memory) → (r : Result Bool CutOff) → Rest (many - kept) s r → Whole many memory r
  unfolding Rest Whole
  whole-read begun h is (Err e₂) R = tt
  whole-read begun h is (Ok v) (t, L, f) =
      let front = take kept memory in
      let b = front ++ L.sent in
      let S : Scanned b t = scanned_more (record { bytes = h; state = is ∙ ap (λ (x : Scan). past x front) begun }) L.sent L.bytes L.leads in
      let part : length front ≡ kept = omega (arith, length-take kept memory) in
      let long : length b ≡ many = omega (arith, length-append front L.sent, L.long) in
      let begins : take kept b ≡ front = ap (λ (n : ℕ). take n b) (sym part) ∙ take-append_seam front L.sent in
      let same : take kept b ≡ take 90273 b = take-least 90273 kept b (omega arith) in
      (b, long, record { bytes = S.bytes; front = sym (take-least many kept memory (omega arith)) ∙ sym begins ∙ same; formed = f ∙ scanned-formed S })

-- what is held of it, for those who answer the case
pub whole-front : (many : ℕ) (memory : List ℕ) {v : Bool} → Whole many memory (Ok v) → Front (take many memory) v
unfolding Whole
whole-front many memory (b, long, H) = (b, H)
