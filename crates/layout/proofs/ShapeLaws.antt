-- Laws of which bytes are a sheet: each test by the outcomes of its parts, loops over lists and forbids, and what acceptance tells.
-- Assumes nothing.
use mathlib.Core.Bool.{Bool, true, false, ◌&&◌}
use mathlib.Core.List.{List, [], ◌∷◌, ◌++◌}
use mathlib.Core.Path.{◌≡◌, refl, sym, ap, ◌∙◌}
use Prim.Native.Nat.{ℕ, suc, ◌+◌, ◌-◌, ◌*◌, ◌%◌, ◌≤◌, ◌<◌}
use native.Mathlib.Omega.{arith}
use lib.Dec.{leb, eqb}
use lib.ListN.{length, get_or, drop, length-drop, drop_of_length-le}
use lib.Seq.{drop-cons, drop-drop}
use borrow.Author.Tests.{leb-true, eqb-true, le-leb, lt-leb, eq-eqb, ne_eqb}
use Rattle.records.specs.Numbers.{u16At, numbers_in}
use Rattle.records.specs.Records.{begins, payload_of, rest_of}
use Rattle.layout.specs.Reading.{from_lists, from_grid, from_forbids, Frames, framed, count_in, weights_fit, lists_fit, grid_fits, kinds_fit, forbids_fit, well_formed}
use Rattle.loops.proofs.TestLaws.{both}
use Rattle.records.proofs.RecordLaws.{begins-framed}

-- ---- records

-- by the outcomes of its tests, where l, g, f and n are what follows each record
pub framed_is : (b : List ℕ) {l g f n : List ℕ} {first second third fourth nothing : Bool} → l ≡ rest_of b → g ≡ rest_of l → f ≡ rest_of g → n ≡ rest_of f
    → begins 1 b ≡ first → begins 2 l ≡ second → begins 3 g ≡ third → begins 4 f ≡ fourth → eqb (length n) 0 ≡ nothing
    → framed b ≡ first && (second && (third && (fourth && nothing)))
unfolding framed
framed_is b e₁ e₂ e₃ e₄ t₁ t₂ t₃ t₄ t₅ =
    let g₁ = sym (e₂ ∙ ap rest_of e₁) in
    let f₁ = sym (e₃ ∙ ap rest_of (sym g₁)) in
    let n₁ = sym (e₄ ∙ ap rest_of (sym f₁)) in
    rw (n₁, f₁, g₁, sym e₁, t₁, t₂, t₃, t₄, t₅)

empty : {A : Type 0} (l : List A) → length l ≡ 0 → l ≡ []
empty [] e = refl
empty (x ∷ l) e = absurd (omega arith)

pub framed-frames : (b : List ℕ) → framed b ≡ true → Frames b
unfolding framed
framed-frames b e =
    let (first, e₂) = both (begins 1 b) _ e in
    let (second, e₃) = both (begins 2 (from_lists b)) _ e₂ in
    let (third, e₄) = both (begins 3 (from_grid b)) _ e₃ in
    let (fourth, nothing) = both (begins 4 (from_forbids b)) _ e₄ in
    record {
      first = begins-framed 1 b first;
      second = begins-framed 2 (from_lists b) second;
      third = begins-framed 3 (from_grid b) third;
      fourth = begins-framed 4 (from_forbids b) fourth;
      nothing = empty (rest_of (from_forbids b)) (eqb-true _ _ nothing);
    }

-- ---- weights

module _ (p : List ℕ) where
  pub weights-short : length p < 2 → false ≡ weights_fit p
  unfolding weights_fit
  weights-short h = sym (rw (lt-leb 2 (length p) h))

  pub weights_long : 2 ≤ length p → {n : ℕ} → n ≡ u16At p 0 → eqb (length p) (2 + 2 * n) ≡ weights_fit p
  unfolding weights_fit
  weights_long h e = sym (rw (le-leb 2 (length p) h, e))

  pub weights-length : weights_fit p ≡ true → (2 ≤ length p) × (length p ≡ 2 + 2 * u16At p 0)
  unfolding weights_fit
  weights-length e =
      let (long, same) = both (leb 2 (length p)) _ e in
      (leb-true _ _ long, eqb-true _ _ same)

-- ---- lists

-- a list more, at place `at`
module _ (n at : ℕ) (p : List ℕ) where
  pub lists-end : at ≤ length p → eqb at (length p) ≡ lists_fit 0 (drop at p)
  unfolding lists_fit
  lists-end h = go (drop at p) (length-drop at p)
    where
      go : (l : List ℕ) → length l ≡ length p - at → eqb at (length p) ≡ lists_fit 0 l
      go [] e = eq-eqb at (length p) (omega arith)
      go (x ∷ l) e = ne_eqb at (length p) (λ z. omega arith)

  pub lists-over : at ≡ length p → false ≡ lists_fit (suc n) (drop at p)
  unfolding lists_fit
  lists-over e =
      let h : length p ≤ at = omega arith in
      rw (drop_of_length-le p h)

  module _ (h : at < length p) (x : ℕ) (e : x ≡ get_or p at 0) where
    lists_next : lists_fit (suc n) (drop at p) ≡ leb x (length (drop (suc at) p)) && lists_fit n (drop x (drop (suc at) p))
    unfolding lists_fit
    lists_next = rw (drop-cons p at 0 h, e)

    pub lists-cut : length p - at ≤ x → false ≡ lists_fit (suc n) (drop at p)
    lists-cut l =
        let k : length (drop (suc at) p) < x = omega (arith, length-drop (suc at) p) in
        sym (lists_next ∙ rw (lt-leb x (length (drop (suc at) p)) k))

    pub lists_more : x < length p - at → lists_fit n (drop (at + 1 + x) p) ≡ lists_fit (suc n) (drop at p)
    lists_more l =
        let k : x ≤ length (drop (suc at) p) = omega (arith, length-drop (suc at) p) in
        let next : suc at + x ≡ at + 1 + x = omega arith in
        sym (lists_next ∙ rw (le-leb x (length (drop (suc at) p)) k, drop-drop x (suc at) p, next))

-- ---- forbids

-- the forbid at the front, and those after it
kinds_next : (rest p : List ℕ) → length p ≡ 6 → kinds_fit (numbers_in (p ++ rest)) ≡ leb (u16At p 4) 1 && kinds_fit (numbers_in rest)
unfolding kinds_fit numbers_in u16At
kinds_next rest [] h = absurd (omega arith)
kinds_next rest (a ∷ []) h = absurd (omega arith)
kinds_next rest (a ∷ b ∷ []) h = absurd (omega arith)
kinds_next rest (a ∷ b ∷ c ∷ []) h = absurd (omega arith)
kinds_next rest (a ∷ b ∷ c ∷ d ∷ []) h = absurd (omega arith)
kinds_next rest (a ∷ b ∷ c ∷ d ∷ e ∷ []) h = absurd (omega arith)
kinds_next rest (a ∷ b ∷ c ∷ d ∷ e ∷ f ∷ []) h = refl
kinds_next rest (a ∷ b ∷ c ∷ d ∷ e ∷ f ∷ g ∷ l) h = absurd (omega arith)

module _ {bytes : List ℕ} (rest p : List ℕ) (e : bytes ≡ p ++ rest) (h : length p ≡ 6) where
  pub kinds-over : 1 < u16At p 4 → false ≡ kinds_fit (numbers_in bytes)
  kinds-over l = sym (rw e (kinds_next rest p h ∙ rw (lt-leb (u16At p 4) 1 l)))

  pub kinds_more : u16At p 4 ≤ 1 → kinds_fit (numbers_in rest) ≡ kinds_fit (numbers_in bytes)
  kinds_more l = sym (rw e (kinds_next rest p h ∙ rw (le-leb (u16At p 4) 1 l)))

pub kinds-end : (rest : List ℕ) → length rest < 6 → true ≡ kinds_fit (numbers_in rest)
unfolding kinds_fit numbers_in
kinds-end [] h = refl
kinds-end (a ∷ []) h = refl
kinds-end (a ∷ b ∷ []) h = refl
kinds-end (a ∷ b ∷ c ∷ []) h = refl
kinds-end (a ∷ b ∷ c ∷ d ∷ []) h = refl
kinds-end (a ∷ b ∷ c ∷ d ∷ e ∷ []) h = refl
kinds-end (a ∷ b ∷ c ∷ d ∷ e ∷ f ∷ l) h = absurd (omega arith)

pub forbids-is : (p : List ℕ) {six few kinds : Bool} → eqb (length p % 6) 0 ≡ six → leb (length p) 24576 ≡ few → kinds_fit (numbers_in p) ≡ kinds
    → forbids_fit p ≡ six && (few && kinds)
unfolding forbids_fit
forbids-is p e f g = rw (e, f, g)

-- ---- the whole

pub well_formed-is : (b : List ℕ) {frames weights lists sides forbids : Bool} → framed b ≡ frames → weights_fit (payload_of b) ≡ weights
    → lists_fit (4 * count_in b) (payload_of (from_lists b)) ≡ lists → grid_fits (payload_of (from_grid b)) ≡ sides → forbids_fit (payload_of (from_forbids b)) ≡ forbids
    → well_formed b ≡ frames && (weights && (lists && (sides && forbids)))
unfolding well_formed
well_formed-is b e f g h i = rw (e, f, g, h, i)

-- what a sheet's bytes are
pub record Formed (b : List ℕ) : Type 0 where
  pub frames : Frames b
  pub weights : weights_fit (payload_of b) ≡ true
  pub lists : lists_fit (4 * count_in b) (payload_of (from_lists b)) ≡ true
  pub sides : length (payload_of (from_grid b)) ≡ 6
  pub sixes : length (payload_of (from_forbids b)) % 6 ≡ 0
  pub few : length (payload_of (from_forbids b)) ≤ 24576
  pub kinds : kinds_fit (numbers_in (payload_of (from_forbids b))) ≡ true

pub formed : (b : List ℕ) → well_formed b ≡ true → Formed b
unfolding well_formed grid_fits forbids_fit
formed b e =
    let (frames, e₂) = both (framed b) _ e in
    let (weights, e₃) = both (weights_fit (payload_of b)) _ e₂ in
    let (lists, e₄) = both (lists_fit (4 * count_in b) (payload_of (from_lists b))) _ e₃ in
    let (sides, e₅) = both (grid_fits (payload_of (from_grid b))) _ e₄ in
    let (sixes, e₆) = both (eqb (length (payload_of (from_forbids b)) % 6) 0) _ e₅ in
    let (few, kinds) = both (leb (length (payload_of (from_forbids b))) 24576) _ e₆ in
    record {
      frames = framed-frames b frames;
      weights = weights;
      lists = lists;
      sides = eqb-true _ _ sides;
      sixes = eqb-true _ _ sixes;
      few = leb-true _ _ few;
      kinds = kinds;
    }
