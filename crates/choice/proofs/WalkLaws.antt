-- Laws of the observer's walk over the blocks: a mark that is not 0 is kept, one that is 0 is looked up, and after all blocks the best is that of all cells.
-- Follows docs/RULES.md, "Run". Assumes nothing.
use mathlib.Core.Bool.{Bool, true, false}
use mathlib.Core.List.{List}
use mathlib.Core.Logic.{◌⊎◌, inr, ⊎_elim}
use mathlib.Core.Path.{◌≡◌, refl, sym, ap, ◌∙◌, subst}
use Prim.Native.Nat.{ℕ, ◌+◌, ◌-◌, ◌*◌, ◌≤◌, ◌<◌}
use native.Mathlib.Nat.{le_refl}
use native.Mathlib.Omega.{arith}
use lib.Dec.{eqb}
use lib.Ieee.{Float}
use lib.ListN.{length, get_or, take, drop, set, length-set, length-drop, take-append-drop}
use lib.Seq.{get_or-drop, get_or-set_same, get_or-set_other, take-set-le, drop-set-add, set-get_or}
use borrow.Author.Tests.{eqb-true, eqb-false}
use Rattle.order.specs.Numbers.{Numbers}
use Rattle.notes.specs.Blocks.{blocks, block_at}
use Rattle.choice.specs.Observer.{Notes, notes_in, Lengths, join, best_in, best_at, observed_as, observe, Observed}
use Rattle.choice.specs.Cache.{start_of, decode, code_at, Fresh, codes, recoded}
use Rattle.choice.proofs.ObserverLaws.{Ordered, ordered, lengths_each}
use Rattle.choice.proofs.BestLaws.{best_none}
use Rattle.choice.proofs.BlockLaws.{counts-few, code_at-inside, decode-code_at, best_in-blocks, best_in-all}
use Rattle.choice.proofs.CacheLaws.{notes_in-front, looked-codes}

-- ---- one mark

module _ (v : Notes) (cache : List ℕ) (y : ℕ) (f : Fresh v cache) (h : y < length cache) where
  fresh_kept : (get_or cache y 0 ≡ 0 → ⊥) → get_or cache y 0 ≡ code_at v y
  fresh_kept n = ⊎_elim (λ e. absurd (n e)) (λ e. e) (f.at y h)

  fresh_set : Fresh v (set cache y (code_at v y))
  fresh_set = record { at = λ j l. at j (omega (arith, length-set cache y (code_at v y))) (eqb j y) refl }
    where
      at : (j : ℕ) → j < length cache → (t : Bool) → eqb j y ≡ t
          → (get_or (set cache y (code_at v y)) j 0 ≡ 0) ⊎ (get_or (set cache y (code_at v y)) j 0 ≡ code_at v j)
      at j l true e = inr (subst (λ (i : ℕ). get_or (set cache y (code_at v y)) i 0 ≡ code_at v i) (sym (eqb-true j y e)) (get_or-set_same cache y (code_at v y) 0 h))
      at j l false e = rw (get_or-set_other cache y j (code_at v y) 0 (eqb-false j y e)) (f.at j l)

-- a mark that is not 0 is what a look gives, and stays
pub renew_kept : (n y : ℕ) (v : Notes) (marks : List ℕ) {mark : ℕ} → length marks ≡ 2 * n + blocks n → y < blocks n → Fresh v (drop (2 * n) marks)
    → mark ≡ get_or marks (block_at n y) 0 → (mark ≡ 0 → ⊥) → (mark ≡ code_at v y) × (marks ≡ set marks (block_at n y) (code_at v y))
renew_kept n y v marks long l f is set-already =
    let at = get_or-drop (2 * n) marks y 0 in
    let e = fresh_kept v (drop (2 * n) marks) y f (omega (arith, length-drop (2 * n) marks)) (λ z. set-already (is ∙ sym at ∙ z)) in
    (is ∙ sym at ∙ e, sym (set-get_or marks (block_at n y) 0) ∙ ap (set marks (block_at n y)) (sym at ∙ e))

-- ---- the walk

-- after y blocks of n cells, whose notes are v and whose marks were `first`
pub record Upto (n : ℕ) (v : Notes) (first marks : List ℕ) (best y : ℕ) : Type 0 where
  pub some : y ≤ blocks n
  pub long : length marks ≡ length first
  pub front : take (2 * n) marks ≡ take (2 * n) first
  pub low : best ≤ n
  pub best-is : best_at n v best ≡ best_in v 0 (y * 32)
  pub done : (j : ℕ) → j < y → get_or (drop (2 * n) marks) j 0 ≡ code_at v j
  pub fresh : Fresh v (drop (2 * n) marks)

pub upto-start : (n : ℕ) (v : Notes) (first : List ℕ) → Fresh v (drop (2 * n) first) → Upto n v first first n 0
unfolding best_in
upto-start n v first f = record { some = omega arith; long = refl; front = refl; low = le_refl n; best-is = best_none n v; done = λ j h. absurd (omega arith); fresh = f }

module _ {n y best : ℕ} {v : Notes} {first marks : List ℕ} (size : length first ≡ 2 * n + blocks n) (few : length v.counts ≤ n)
    (u : Upto n v first marks best y) where
  upto_turn : {marks' : List ℕ} {best' : ℕ} → Ordered v → 2 * n + y < length marks → marks' ≡ set marks (block_at n y) (code_at v y)
      → best' ≤ n → best_at n v best' ≡ join (best_at n v best) (best_in v (start_of y) 32) → Upto n v first marks' best' (y + 1)
  upto_turn {marks'} {best'} o h m low b =
      let l : y < length (drop (2 * n) marks) = omega (arith, length-drop (2 * n) marks) in
      let cache : drop (2 * n) marks' ≡ set (drop (2 * n) marks) y (code_at v y) = ap (drop (2 * n)) m ∙ drop-set-add (2 * n) marks y (code_at v y) in
      record {
        some = omega (arith, u.long);
        long = ap length m ∙ length-set marks (block_at n y) (code_at v y) ∙ u.long;
        front = ap (take (2 * n)) m ∙ take-set-le (2 * n) marks (block_at n y) (code_at v y) (omega arith) ∙ u.front;
        low = low;
        best-is = b ∙ ap (λ x. join x (best_in v (start_of y) 32)) u.best-is ∙ sym (best_in-blocks v o y);
        done = λ j p. rw cache (at l j p (eqb j y) refl);
        fresh = rw cache (fresh_set v (drop (2 * n) marks) y u.fresh l);
      }
    where
      at : y < length (drop (2 * n) marks) → (j : ℕ) → j < y + 1 → (t : Bool) → eqb j y ≡ t → get_or (set (drop (2 * n) marks) y (code_at v y)) j 0 ≡ code_at v j
      at l j p true e =
          subst (λ (i : ℕ). get_or (set (drop (2 * n) marks) y (code_at v y)) i 0 ≡ code_at v i) (sym (eqb-true j y e)) (get_or-set_same (drop (2 * n) marks) y (code_at v y) 0 l)
      at l j p false e = let d = eqb-false j y e in get_or-set_other (drop (2 * n) marks) y j (code_at v y) 0 d ∙ u.done j (omega arith)

  upto-end : length marks ≤ 2 * n + y → (best_at n v best ≡ best_in v 0 n) × (marks ≡ recoded n v first)
  unfolding recoded
  upto-end h =
      let all : y ≡ blocks n = omega (arith, u.long, u.some) in
      let cache : drop (2 * n) marks ≡ codes v 0 (blocks n) = looked-codes v (drop (2 * n) marks) (blocks n) (length-drop (2 * n) marks ∙ omega (arith, u.long)) (λ j p. u.done j (omega arith)) in
      (u.best-is ∙ best_in-all v n y few (omega arith), sym (take-append-drop (2 * n) marks) ∙ rw (u.front, cache))

-- ---- the walk over what the run keeps

module _ {cells y weighted best : ℕ} {noise domains first marks : List ℕ} {floats : List Float} (each : Lengths cells noise domains floats first)
    (u : Upto cells (notes_in cells noise domains floats first weighted) first marks best y) where
  abbrev entry : Notes
  entry = notes_in cells noise domains floats first weighted

  abbrev current : Notes
  current = notes_in cells noise domains floats marks weighted

  few : length (take cells first) ≤ cells
  few = counts-few cells first

  same_notes : current ≡ entry
  same_notes = notes_in-front cells noise domains floats first marks weighted u.front

  pub walk_lengths : Lengths cells noise domains floats marks
  walk_lengths = record { noises = each.noises; words = each.words; values = each.values; marked = u.long ∙ each.marked }

  pub walk-fresh : Fresh current (drop (2 * cells) marks)
  walk-fresh = subst (λ w. Fresh w (drop (2 * cells) marks)) (sym same_notes) u.fresh

  -- the block's mark was renewed
  module _ {mark : ℕ} {marks' : List ℕ} (h : 2 * cells + y < length marks)
      (seen : (mark ≡ code_at current y) × (marks' ≡ set marks (block_at cells y) (code_at current y))) where
    is_code : mark ≡ code_at entry y
    is_code = seen.0 ∙ ap (λ w. code_at w y) same_notes

    start-low : start_of y ≤ cells
    start-low = omega (arith, u.long, each.marked)

    pub walk_inside : 2 ≤ mark → start_of y + (mark - 2) < cells
    walk_inside = subst (λ (k : ℕ). 2 ≤ k → start_of y + (k - 2) < cells) (sym is_code) (code_at-inside entry cells y few start-low)

    pub walk-long : length marks' ≡ length first
    walk-long = ap length seen.1 ∙ length-set marks (block_at cells y) (code_at current y) ∙ u.long

    pub walk_turn : {best' : ℕ} → Numbers (drop cells floats)
        → (best' ≤ cells) × ((domains : List ℕ) (weighted : ℕ) → best_at cells (notes_in cells noise domains floats marks' weighted) best'
        ≡ join (best_at cells (notes_in cells noise domains floats marks' weighted) best) (decode (notes_in cells noise domains floats marks' weighted) (start_of y) mark))
        → Upto cells entry first marks' best' (y + 1)
    walk_turn {best'} numbers (low, b) =
        let m : marks' ≡ set marks (block_at cells y) (code_at entry y) = seen.1 ∙ ap (λ w. set marks (block_at cells y) (code_at w y)) same_notes in
        let front : take (2 * cells) marks' ≡ take (2 * cells) first =
        ap (take (2 * cells)) m ∙ take-set-le (2 * cells) marks (block_at cells y) (code_at entry y) (omega arith) ∙ u.front in
        let held : best_at cells entry best' ≡ join (best_at cells entry best) (decode entry (start_of y) mark) =
        subst (λ w. best_at cells w best' ≡ join (best_at cells w best) (decode w (start_of y) mark)) (notes_in-front cells noise domains floats first marks' weighted front) (b domains weighted) in
        let found : decode entry (start_of y) mark ≡ best_in entry (start_of y) 32 = ap (decode entry (start_of y)) is_code ∙ decode-code_at entry y in
        upto_turn each.marked few u (ordered entry numbers (lengths_each each)) h m low (held ∙ ap (join (best_at cells entry best)) found)

  pub walk_end : {r : Observed} → length marks ≤ 2 * cells + y
      → ((domains : List ℕ) (weighted : ℕ) → r ≡ observed_as (best_at cells (notes_in cells noise domains floats marks weighted) best))
      → (r ≡ observe entry) × (marks ≡ recoded cells entry first)
  unfolding observe
  walk_end h e =
      let p = upto-end each.marked few u h in (
        e domains weighted ∙ ap (λ w. observed_as (best_at cells w best)) same_notes ∙ ap observed_as p.0
            ∙ ap (λ (k : ℕ). observed_as (best_in entry 0 k)) (sym each.words),
        p.1,
      )
