-- Laws of what a program holds of a sheet: it tells the sheet's own refusal. Up to 90,272 bytes are all of the sheet; where there are more, the refusal
-- is 3 or, where they are no sheet, 10. Follows docs/RULES.md, "Programs". Assumes nothing.
use mathlib.Core.Bool.{Bool, true, false, not, cond}
use mathlib.Core.List.{List}
use mathlib.Core.Path.{◌≡◌, refl, sym, ap, ◌∙◌}
use Prim.Native.Nat.{ℕ, ◌*◌, ◌≤◌, ◌<◌}
use native.Mathlib.Omega.{arith}
use lib.Dec.{ltb}
use lib.ListN.{length, length-take, length-replicate}
use lib.Seq.{take_all}
use borrow.Author.Tests.{ltb-true, ltb-false, lt-ltb, ne_eqb}
use Rattle.records.specs.Records.{payload_of}
use Rattle.refusals.specs.Refusals.{Test, number, first_of}
use Rattle.adjacency.specs.Checks.{bad_count}
use Rattle.layout.specs.Sheet.{list_bytes}
use Rattle.layout.specs.Tables.{table_of}
use Rattle.layout.specs.Reading.{from_lists, count_in, well_formed, sheet_in}
use Rattle.sheet.specs.Called.{scalar_tests, sheet_tests, form_test}
use Rattle.bounded.specs.Laid.{sheet_refusal, Held}
use Rattle.records.proofs.RecordLaws.{Bytes}
use Rattle.refusals.proofs.RefusalLaws.{first-here, first_next}
use Rattle.layout.proofs.ShapeLaws.{formed}
use Rattle.layout.proofs.ReadingLaws.{count-is, ids-is, forbids-bytes, roomy-own}
use Rattle.layout.proofs.WritingLaws.{bytes-size}
use Rattle.layout.proofs.InverseLaws.{list_bytes-lists_in, bytes_of-sheet_in}
use Rattle.sheet.proofs.CalledLaws.{sheet-scalar, scalar_tests-is}

-- ---- the sheet's own refusals

module _ (b : List ℕ) where
  -- the tests of what a sheet says
  abbrev said : List Test
  said = sheet_tests false (table_of (sheet_in b)) (sheet_in b).weights (sheet_in b).grid (sheet_in b).forbids

  -- bytes that are no sheet are refused first
  pub refusal-form : well_formed b ≡ false → sheet_refusal b ≡ 10
  unfolding sheet_refusal number
  refusal-form e = first-here (form_test b) said (ap not e)

  -- of those that are one, the refusals are of what it says
  pub refusal_next : well_formed b ≡ true → sheet_refusal b ≡ first_of said
  unfolding sheet_refusal
  refusal_next e = first_next (form_test b) said (ap not e)

  -- over 64 patterns is 3
  pub refusal-many : well_formed b ≡ true → 64 < length (sheet_in b).weights → sheet_refusal b ≡ 3
  unfolding table_of bad_count
  refusal-many w h =
      let s = sheet_in b in
      let bad : bad_count (length s.weights) ≡ true = rw (ne_eqb (length s.weights) 0 (λ z. omega arith), lt-ltb 64 (length s.weights) h) in
      let first : 3 ≡ first_of (scalar_tests (length s.weights) s.grid) = sym (scalar_tests-is (length s.weights) s.grid bad refl refl) in
      refusal_next w ∙ sheet-scalar false (table_of s) s.weights s.grid s.forbids first (λ z. omega arith)

-- ---- how long a sheet is

-- up to 64 patterns, each list of up to 255 ids, and 4,096 forbids
pub sheet-most : (b : List ℕ) → well_formed b ≡ true → Bytes b → count_in b ≤ 64 → length b ≤ 90272
unfolding sheet_in table_of
sheet-most b w bytes few =
    let F = formed b w in
    let s = sheet_in b in
    let lists : length (list_bytes s.lists) ≡ length (payload_of (from_lists b)) = ap length (list_bytes-lists_in (4 * count_in b) (payload_of (from_lists b)) F.lists) in
    omega
    (arith, sym (ap length (bytes_of-sheet_in b bytes w)), bytes-size s, lists, count-is b F, ids-is b F, (roomy-own b F bytes few).ids, length-replicate {A = ℕ} 65280 0, forbids-bytes b F, F.few)

-- so of more bytes it is 3, or 10 where they are no sheet
pub refusal-long : (b : List ℕ) → Bytes b → 90272 < length b → sheet_refusal b ≡ cond (well_formed b) 3 10
refusal-long b bytes long = go (well_formed b) refl
  where
    many : well_formed b ≡ true → (v : Bool) → ltb 64 (count_in b) ≡ v → 64 < count_in b
    many w true h = ltb-true 64 (count_in b) h
    many w false h = absurd (omega (arith, sheet-most b w bytes (ltb-false 64 (count_in b) h)))

    go : (v : Bool) → well_formed b ≡ v → sheet_refusal b ≡ cond v 3 10
    go true w = refusal-many b w (omega (arith, many w (ltb 64 (count_in b)) refl, count-is b (formed b w)))
    go false w = refusal-form b w

-- ---- what is held

module _ {b kept : List ℕ} {judged : Bool} (H : Held b kept judged) where
  -- up to 90,272 bytes are all of them
  pub held_whole : length kept ≤ 90272 → kept ≡ b
  held_whole h = H.front ∙ take_all 90273 b (omega (arith, ap length H.front, length-take 90273 b))

  -- of more, what is known of the whole tells the refusal
  pub held-long : 90272 < length kept → sheet_refusal b ≡ cond judged 3 10
  held-long h =
      refusal-long b H.bytes (omega (arith, ap length H.front, length-take 90273 b))
      ∙ ap (λ (v : Bool). cond v 3 10) (sym H.formed)
