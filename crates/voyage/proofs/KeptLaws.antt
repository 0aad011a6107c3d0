-- Laws of what is kept of a sheet: the front that is in memory and what the scan came to are what a program holds of all bytes that were read.
-- Assumes nothing.
use Rattle.std.proofs.Common.{Bool, Option, Some, Ok, List, ◌++◌, ◌≡◌, ℕ, ◌≤◌, ◌<◌, length, get_or, take, sym, ap, subst, ◌∙◌, arith}
use Rattle.std.proofs.lemmas.List.{take_all, length-take}
use Rattle.std.proofs.Math.Seq.{take-append_seam}
use Rattle.scan.specs.declared.inner.Scan.{Scan}
use Rattle.scan.specs.Scanning.{start, past, formed, Reached, Scanned}
use Rattle.bounded.specs.Laid.{Front}
use Rattle.voyage.specs.Kept.{Next}
use Rattle.scan.proofs.ScanLaws.{scanned_more, scanned-formed}

-- a scan from the start, as the code makes it
pub seen : {b : List ℕ} {s r : Scan} → s ≡ start → (r ≡ past s b) × ((k : ℕ) → get_or b k 0 < 256) → Scanned b r
seen {b} e (f, h) = record { bytes = h; state = f ∙ ap (λ (s : Scan). past s b) e }

-- bytes that are held whole
pub front-whole : {b : List ℕ} {s : Scan} → Scanned b s → length b ≤ 90273 → {r : Bool} → r ≡ formed s → Front b r
front-whole {b} S h e = (b, record { bytes = S.bytes; front = sym (take_all 90273 b h); formed = e ∙ scanned-formed S })

-- a front that fills the memory, and what was read past it
pub front-longer : {b : List ℕ} {s t : Scan} → Scanned b s → 90273 ≡ length b → Reached s t → {r : Bool} → r ≡ formed t → Front b r
front-longer {b} S h R e =
    let all = scanned_more S R.between R.bytes R.state in
    let kept : take 90273 (b ++ R.between) ≡ b = subst (λ (n : ℕ). take n (b ++ R.between) ≡ b) (sym h) (take-append_seam b R.between) in
    (b ++ R.between, record { bytes = all.bytes; front = sym kept; formed = e ∙ scanned-formed all })

-- the same, as it is kept
pub kept-longer : {b : List ℕ} {s t : Scan} → Scanned b s → length b ≡ 90273 → Reached s t → {r : Bool} → r ≡ formed t → Front (take 90273 b) r
kept-longer {b} S h R {r} e = subst (λ (l : List ℕ). Front l r) (sym (take_all 90273 b (omega arith))) (front-longer S (sym h) R e)

-- ---- a file, piece by piece

pub next-some : {s t : Scan} {o : Option Scan} → Next s (Ok o) → o ≡ Some t → Reached s t
next-some {s} N e = subst (λ (o : Option Scan). Next s (Ok o)) e N

-- ---- memory

-- a file that fits into it
pub holds-whole : (n : ℕ) (memory : List ℕ) {part : List ℕ} {r : Bool} → part ≡ take n memory → length memory ≡ 90273 → (length part ≤ 90273 → Front part r) → Front (take n memory) r
holds-whole n memory {part} {r} e h f = subst (λ (l : List ℕ). Front l r) e (f (omega (arith, ap length e, length-take n memory)))
