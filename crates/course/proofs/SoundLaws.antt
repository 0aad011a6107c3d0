-- No running value and no noted entropy of a run is a NaN. Follows docs/RULES.md, "Run" and "Entropy". Assumes nothing.
use mathlib.Core.Bool.{Bool, true, false, cond}
use mathlib.Core.List.{List, ◌++◌}
use mathlib.Core.Path.{◌≡◌, refl}
use Prim.Native.Nat.{ℕ, zero, suc, ◌+◌, ◌-◌, ◌*◌, ◌≤◌, ◌<◌}
use native.Mathlib.Decide.{dec_lt}
use native.Mathlib.Omega.{arith}
use lib.Dec.{eqb}
use lib.Ieee.{Float, binary32, nan, of_bits, is_nan}
use lib.ListN.{length, get_or, set, replicate, length-set, length-append, length-replicate, get_or-append}
use lib.Seq.{get_or-set_same, get_or-set_other, get_or-append-add}
use borrow.Author.Tests.{eqb-true, eqb-false}
use Rattle.order.specs.Numbers.{Number, Numbers}
use Rattle.adjacency.specs.Weights.{Weighed, weight_of, weight_sum, whole_weight}
use Rattle.grid.specs.Grid.{cells}
use Rattle.logarithms.specs.Entropy.{entropy, running}
use Rattle.notes.specs.Notes.{note_of}
use Rattle.notes.specs.declared.inner.Note.{Note}
use Rattle.consistency.specs.Worklist.{Removal, State}
use Rattle.consistency.specs.Start.{start}
use Rattle.notes.specs.Beside.{Beside, weighted_in, lessened_by, lessened, proposes, proposed, written, noted, proposing, kept, unmarked}
use Rattle.forbids.specs.declared.Forbid.{Forbid}
use Rattle.course.specs.Run.{Given, first_count, first_entropy, first_beside, begun}
use Rattle.course.specs.Course.{Lawful, Reached}
use Rattle.order.proofs.ListLaws.{numbers_same}
use Rattle.adjacency.proofs.WeightLaws.{weight_sum-le, weight-light}
use Rattle.logarithms.proofs.EntropyLaws.{running-number, minus_number, entropy-number}
use Rattle.notes.proofs.NoteLaws.{lowered-number}
use Rattle.notes.proofs.BesideLaws.{proposes-weight}
use Rattle.course.proofs.FirstLaws.{weight-some}
use Rattle.course.proofs.KeptCourse.{Lasts, holds-reached}

-- ---- lists of numbers

-- a store past the end is none, so its value is asked for only where it is stored
numbers-put : (l : List Float) (c : ℕ) (e : Float) → (c < length l → Number e) → Numbers l → Numbers (set l c e)
numbers-put l c e N o = record { at = λ i h. at i (omega (arith, length-set l c e)) (eqb i c) refl }
  where
    at : (i : ℕ) → i < length l → (t : Bool) → eqb i c ≡ t → Number (get_or (set l c e) i nan)
    at i h true p =
        let inside : c < length l = omega (arith, eqb-true i c p) in
        rw (eqb-true i c p, get_or-set_same l c e nan inside) (N inside)
    at i h false p = rw (get_or-set_other l c i e nan (eqb-false i c p)) (o.at i h)

numbers-append : (l m : List Float) → Numbers l → Numbers m → Numbers (l ++ m)
numbers-append l m L M = record { at = λ i h. at i h (dec_lt i (length l)) }
  where
    at : (i : ℕ) → i < length (l ++ m) → Dec (i < length l) → Number (get_or (l ++ m) i nan)
    at i h (yes k) = rw (get_or-append l m nan i k) (L.at i k)
    at i h (no k) =
        let same : i ≡ length l + (i - length l) = omega (arith, k) in
        rw same (rw (get_or-append-add l m (i - length l) nan) (M.at (i - length l) (omega (arith, k, length-append l m))))

-- ---- what is kept beside the domains

-- two floats for each of n cells, and none is a NaN
pub record Sound (n : ℕ) (x : Beside) : Type 0 where
  pub numbers : Numbers x.floats
  pub long : length x.floats ≡ 2 * n

proposed-number : (fresh : ℕ) (old : Note) (e : Float) (m : ℕ) → Number e → Number old.entropy → Number (proposed fresh old e m).entropy
unfolding proposed
proposed-number zero old e m E N = E
proposed-number (suc fresh) old e m E N = lowered-number old e m E N

module _ (n : ℕ) where
  sound-lessened : (w c : ℕ) (x : Beside) → w ≤ 1024 → Sound n x → Sound n (lessened_by w c x)
  unfolding lessened_by
  sound-lessened zero c x l S = S
  sound-lessened (suc w) c x l S =
      record {
        numbers = numbers-put x.floats c _ (λ h. minus_number (get_or x.floats c nan) (suc w) (S.numbers.at c h) l) S.numbers;
        long = simp length-set S.long;
      }

  sound-noted : (noise : List ℕ) (c : ℕ) (e : Float) (m : ℕ) (x : Beside) → (n + c < length x.floats → Number e) → Sound n x → Sound n (noted noise n c e m x)
  unfolding noted written
  sound-noted noise c e m x E S =
      record {
        numbers =
            numbers-put x.floats (n + c) _
            (λ h. proposed-number (get_or x.marks (n + c) 0) (note_of noise n c x.floats x.marks) e m (E h) (S.numbers.at (n + c) h)) S.numbers;
        long = simp length-set S.long;
      }

  module _ {P : ℕ} {ws : List ℕ} (W : Weighed P ws) (noise : List ℕ) where
    sound-proposing : (c p w : ℕ) (x : Beside) → Sound n x → Sound n (proposing ws noise n c p w x)
    unfolding proposing
    sound-proposing c p w x S = go (proposes ws p w) refl
      where
        e : Float
        e = entropy (weight_sum ws w) (get_or x.floats c nan)

        go : (b : Bool) → proposes ws p w ≡ b → Sound n (cond b (noted noise n c e (weighted_in ws w) x) x)
        go true t =
            sound-noted noise c e (weighted_in ws w) x
            (λ h.
            entropy-number (weight_sum ws w) (get_or x.floats c nan) (proposes-weight ws p w t).1 (omega (arith, weight_sum-le ws w, W.light))
            (S.numbers.at c (omega arith)))
            S
        go false t = S

    sound-kept : (u : Removal) (D : List ℕ) (x : Beside) → Sound n x → Sound n (kept ws noise n u D x)
    unfolding kept lessened
    sound-kept u D x S = sound-proposing u.cell u.pattern (get_or D u.cell 0) _ (sound-lessened (weight_of ws u.pattern) u.cell x (weight-light W u.pattern) S)

-- ---- along a course

first-number : (ws : List ℕ) → whole_weight ws ≤ 1024 → Number (first_entropy ws)
unfolding first_entropy of_bits is_nan
first-number ws light = go (eqb (first_count ws) 0) refl
  where
    go : (b : Bool) → eqb (first_count ws) 0 ≡ b → Number (cond b (of_bits binary32 0) (entropy (whole_weight ws) (running ws)))
    go true e = tt
    go false e = entropy-number (whole_weight ws) (running ws) (weight-some ws refl (eqb-false (first_count ws) 0 e)) light (running-number ws light)

first-sound : (n : ℕ) (ws : List ℕ) → whole_weight ws ≤ 1024 → Sound n (first_beside n ws)
unfolding first_beside
first-sound n ws light =
    let values = replicate n (running ws) in
    let entropies = replicate n (first_entropy ws) in
    record {
      numbers = numbers-append values entropies (numbers_same n (running ws) (running-number ws light)) (numbers_same n (first_entropy ws) (first-number ws light));
      long = omega (arith, length-append values entropies, length-replicate {A = Float} n (running ws), length-replicate {A = Float} n (first_entropy ws));
    }

module _ (i : Given) (fs : List Forbid) (L : Lawful i fs) where
  sound-lasts : Lasts i (λ D x. Sound (cells i.grid) x)
  unfolding unmarked lessened
  sound-lasts =
      record {
        asked = λ u D x S. sound-lessened (cells i.grid) (weight_of i.weights u.pattern) u.cell x (weight-light L.weighed u.pattern) S;
        following = λ u D x S. sound-kept (cells i.grid) L.weighed i.noise u _ x S;
        renewed = λ D x S. record { numbers = S.numbers; long = S.long };
      }

  module _ {words : List ℕ} {k used : ℕ} {s : State Beside} (r : Reached i fs words k used s) where
    -- no running value and no noted entropy is a NaN
    pub reached-numbers : Sound (cells i.grid) s.beside
    unfolding begun start
    reached-numbers = holds-reached i (λ D x. Sound (cells i.grid) x) sound-lasts (first-sound (cells i.grid) i.weights L.weighed.light) r
