-- Laws of the best cell as a number: what it stands for, and what becomes of it when a further cell is held against it.
-- Follows docs/RULES.md, "Run". Assumes nothing.
use mathlib.Core.Bool.{Bool, true, false, not, cond, ◌||◌, and-false}
use mathlib.Core.List.{List}
use mathlib.Core.Path.{◌≡◌, refl, sym, ap, ◌∙◌}
use Prim.Native.Nat.{ℕ, ◌≤◌, ◌<◌}
use native.Mathlib.Omega.{arith}
use lib.Bits.{bit_and}
use lib.Dec.{leb, eqb}
use lib.Ieee.{Float, nan}
use lib.ListN.{get_or}
use lib.Seq.{get_or-drop}
use borrow.Author.Tests.{eq-eqb, ne_eqb}
use Rattle.words.specs.Words.{how_many}
use Rattle.order.specs.Order.{beats}
use Rattle.notes.specs.Notes.{note_of}
use Rattle.notes.specs.declared.inner.Note.{Note}
use Rattle.std.specs.Prelude.{Some, None}
use Rattle.choice.specs.Observer.{Notes, notes_in, Lengths, valid, note_at, counts_at, better_than, Best, At, Empty, join, candidate, best_at, observed_as, sight}
use Rattle.choice.proofs.ObserverLaws.{join-empty, note_at-note_of}

-- ---- what it stands for

module _ (cells : ℕ) (v : Notes) where
  pub best_none : best_at cells v cells ≡ Empty
  unfolding best_at
  best_none = ap (λ t. cond t Empty (At cells (note_at v cells))) (eq-eqb cells cells refl)

  pub best-cell : {b : ℕ} → (b ≡ cells → ⊥) → best_at cells v b ≡ At b (note_at v b)
  unfolding best_at
  best-cell {b} n = ap (λ t. cond t Empty (At b (note_at v b))) (ne_eqb b cells n)

  pub told_none : {b : ℕ} → b ≡ cells → None ≡ observed_as (best_at cells v b)
  told_none e = sym (ap observed_as (ap (best_at cells v) e ∙ best_none))

-- by the note of that cell as it is kept
module _ (cells b : ℕ) (noise domains : List ℕ) (floats : List Float) (marks : List ℕ) (weighted : ℕ) where
  pub told-cell : {n : Note} → (b ≡ cells → ⊥) → n ≡ note_of noise cells b floats marks
      → Some (sight b n.entropy) ≡ observed_as (best_at cells (notes_in cells noise domains floats marks weighted) b)
  told-cell h is =
      ap (λ (m : Note). Some (sight b m.entropy)) is ∙ ap (λ (f : Float). Some (sight b f)) (sym (get_or-drop cells floats b nan))
      ∙ sym (ap observed_as (best-cell cells (notes_in cells noise domains floats marks weighted) h))

-- ---- a further cell

joined : (t : Bool) (b : ℕ) (n : Note) (c : ℕ) (m : Note)
    → join (cond t Empty (At b n)) (At c m) ≡ cond (t || better_than m n) (At c m) (cond t Empty (At b n))
unfolding join
joined true b n c m = refl
joined false b n c m = refl

module _ (cells best c : ℕ) (noise domains : List ℕ) (floats : List Float) (marks : List ℕ) (weighted : ℕ) {n : Note} {t : Bool} (l : c < cells)
    (is : n ≡ note_of noise cells c floats marks) (test : t ≡ (eqb best cells || better_than n (note_of noise cells best floats marks))) where
  abbrev v : Notes
  v = notes_in cells noise domains floats marks weighted

  read : note_at v c ≡ n
  read = note_at-note_of noise domains floats marks weighted l ∙ sym is

  -- the test is the order of the two notes
  tested : (eqb best cells || better_than (note_at v c) (note_at v best)) ≡ t
  tested =
      ap (λ (m : Note). eqb best cells || better_than m (note_at v best)) read
      ∙ ap (λ (e : Float). eqb best cells || beats n.entropy n.noise e (get_or noise best 0)) (get_or-drop cells floats best nan) ∙ sym test

  won : join (best_at cells v best) (At c (note_at v c)) ≡ cond t (At c (note_at v c)) (best_at cells v best)
  unfolding best_at
  won = joined (eqb best cells) best (note_at v best) c (note_at v c) ∙ ap (λ s. cond s (At c (note_at v c)) (cond (eqb best cells) Empty (At best (note_at v best)))) tested

  pub wins_later : t ≡ true → best_at cells v c ≡ join (best_at cells v best) (At c (note_at v c))
  wins_later e = best-cell cells v (λ q. absurd (omega arith)) ∙ sym (won ∙ ap (λ s. cond s (At c (note_at v c)) (best_at cells v best)) e)

  pub wins_earlier : t ≡ false → best_at cells v best ≡ join (best_at cells v best) (At c (note_at v c))
  wins_earlier e = sym (won ∙ ap (λ s. cond s (At c (note_at v c)) (best_at cells v best)) e)

-- ---- a further cell, where its note counts

-- it does not count of a cell that is decided
few : (count w mask : ℕ) → leb 2 (how_many 64 w) ≡ false → valid count w mask ≡ false
unfolding valid
few count w mask e = rw (e, and-false (eqb (how_many 64 (bit_and w mask)) count)) (and-false (not (eqb count 0)))

module _ (v : Notes) (b : Best) (c : ℕ) where
  passed : counts_at v c ≡ false → b ≡ join b (candidate v c)
  unfolding candidate
  passed e = sym (ap (λ t. join b (cond t (At c (note_at v c)) Empty)) e ∙ join-empty b)

  counted : {r : Best} → counts_at v c ≡ true → r ≡ join b (At c (note_at v c)) → r ≡ join b (candidate v c)
  unfolding candidate
  counted e q = q ∙ sym (ap (λ t. join b (cond t (At c (note_at v c)) Empty)) e)

  -- a cell that would not win changes nothing, whether or not its note counts
  beaten : (t : Bool) → counts_at v c ≡ t → b ≡ join b (At c (note_at v c)) → b ≡ join b (candidate v c)
  beaten true e q = counted e q
  beaten false e q = passed e

module _ {cells best c : ℕ} {noise domains marks : List ℕ} {floats : List Float} (weighted : ℕ)
    (each : Lengths cells noise domains floats marks × (best ≤ cells) × (c < cells)) where
  abbrev kept : Notes
  kept = notes_in cells noise domains floats marks weighted

  -- cell c has no part in it
  abbrev Stays : Type 0
  Stays = (best ≤ cells) × (best_at cells kept best ≡ join (best_at cells kept best) (candidate kept c))

  pub step-decided : {t : Bool} → t ≡ leb 2 (how_many 64 (get_or domains c 0)) → t ≡ false → Stays
  step-decided s e = (each.1, passed kept (best_at cells kept best) c (few (note_at kept c).count (get_or domains c 0) weighted (sym s ∙ e)))

  module _ {n : Note} (is : n ≡ note_of noise cells c floats marks) where
    counts-is : {s : Bool} → s ≡ valid n.count (get_or domains c 0) weighted → counts_at kept c ≡ s
    counts-is q = ap (λ (m : Note). valid m.count (get_or domains c 0) weighted) (note_at-note_of noise domains floats marks weighted each.2 ∙ sym is) ∙ sym q

    pub step-passed : {s : Bool} → s ≡ valid n.count (get_or domains c 0) weighted → s ≡ false → Stays
    step-passed q f = (each.1, passed kept (best_at cells kept best) c (counts-is q ∙ f))

    module _ {t : Bool} (test : t ≡ (eqb best cells || better_than n (note_of noise cells best floats marks))) where
      pub step_beaten : t ≡ false → Stays
      step_beaten e = (each.1, beaten kept (best_at cells kept best) c (counts_at kept c) refl (wins_earlier cells best c noise domains floats marks weighted each.2 is test e))

      pub step-won : {s : Bool} → s ≡ valid n.count (get_or domains c 0) weighted → t ≡ true → s ≡ true
          → (c ≤ cells) × (best_at cells kept c ≡ join (best_at cells kept best) (candidate kept c))
      step-won q e f =
          (omega arith, counted kept (best_at cells kept best) c (counts-is q ∙ f) (wins_later cells best c noise domains floats marks weighted each.2 is test e))
