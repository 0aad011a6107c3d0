-- Laws of the marks of the blocks: when each is 0 or what a look would give, after changes, after an observation and when they are forgotten.
-- Follows docs/RULES.md, "Run". Assumes nothing.
use mathlib.Core.Bool.{cond}
use mathlib.Core.List.{List, append-nil, ◌++◌}
use mathlib.Core.Logic.{◌⊎◌, inl, inr, ⊎_elim}
use mathlib.Core.Path.{◌≡◌, refl, sym, ap, ◌∙◌, subst}
use Prim.Native.Nat.{ℕ, zero, suc, ◌+◌, ◌-◌, ◌*◌, ◌≤◌, ◌<◌}
use native.Mathlib.Decide.{dec_lt}
use native.Mathlib.Nat.{add-zero, zero-add, add-suc, suc-add, le_of_suc-le-suc, not-suc-le-zero}
use native.Mathlib.Numerals.{add-one}
use native.Mathlib.Omega.{arith}
use lib.Ieee.{Float}
use lib.ListN.{length, get_or, take, drop, set, replicate, length-set, length-take, length-drop, length-append, length-replicate, get_or-replicate}
use lib.Seq.{length-take-le, get_or-drop, take-take, take_all, take-suc-set, append_snoc, ext_get_or, take_at, drop_at}
use Rattle.notes.specs.Blocks.{blocks, block_of, block_at, SameCell, Watched}
use Rattle.notes.specs.Notes.{note_of}
use Rattle.notes.specs.declared.inner.Note.{Note}
use Rattle.choice.specs.Observer.{Notes, notes, notes_in, valid, note_at, At, Empty, candidate}
use Rattle.choice.specs.Cache.{start_of, code, code_at, Fresh, codes, recoded, forgotten}
use Rattle.choice.proofs.ObserverLaws.{note_at-note_of}
use Rattle.choice.proofs.JoinLaws.{candidate-out, best_in_same}

-- the notes stand in the front of the marks
pub notes_in-front : (n : ℕ) (noise D : List ℕ) (floats : List Float) (marks marks' : List ℕ) (mask : ℕ) → take (2 * n) marks' ≡ take (2 * n) marks
    → notes_in n noise D floats marks' mask ≡ notes_in n noise D floats marks mask
notes_in-front n noise D floats marks marks' mask e =
    ap (λ (counts : List ℕ). notes (drop n floats) noise counts D mask)
    (sym (take-take n (2 * n) marks' (omega arith)) ∙ ap (take n) e ∙ take-take n (2 * n) marks (omega arith))

-- ---- zero

pub zero-fresh : (v : Notes) (cache : List ℕ) → ((y : ℕ) → y < length cache → get_or cache y 0 ≡ 0) → Fresh v cache
zero-fresh v cache z = record { at = λ y h. inl (z y h) }

-- zero from entry i on
abbrev pub zeroed : ℕ → List ℕ → List ℕ
zeroed i marks = take i marks ++ replicate (length marks - i) 0

module _ (marks : List ℕ) {i : ℕ} where
  -- a turn at i
  pub zeroed_turn : i < length marks → zeroed (i + 1) (set marks i 0) ≡ zeroed i marks
  zeroed_turn h =
      let n : length marks - i ≡ suc (length marks - suc i) = omega arith in
      rw (length-set, add-one, take-suc-set marks i 0 h, n) (append_snoc (take i marks) 0 (replicate (length marks - suc i) 0))

  pub zeroed_end : length marks ≤ i → zeroed i marks ≡ marks
  zeroed_end h =
      let n : length marks - i ≡ 0 = omega arith in
      rw (n, take_all i marks h) (append-nil marks)

pub zeroed_forgotten : (n : ℕ) (marks : List ℕ) → zeroed (2 * n) marks ≡ forgotten n marks
unfolding forgotten
zeroed_forgotten n marks = refl

module _ (n : ℕ) (marks : List ℕ) (h : 2 * n ≤ length marks) where
  front_long : length (take (2 * n) marks) ≡ 2 * n
  front_long = length-take-le (2 * n) marks h

  pub forgotten-front : take (2 * n) (forgotten n marks) ≡ take (2 * n) marks
  unfolding forgotten
  forgotten-front = take_at (take (2 * n) marks) (replicate (length marks - 2 * n) 0) (2 * n) front_long

  pub forgotten-length : length (forgotten n marks) ≡ length marks
  unfolding forgotten
  forgotten-length =
      length-append (take (2 * n) marks) (replicate (length marks - 2 * n) 0) ∙ omega (arith, front_long, length-replicate {A = ℕ} (length marks - 2 * n) 0)

  forgotten_cache : drop (2 * n) (forgotten n marks) ≡ replicate (length marks - 2 * n) 0
  unfolding forgotten
  forgotten_cache = drop_at (take (2 * n) marks) (replicate (length marks - 2 * n) 0) (2 * n) front_long

pub forgotten-fresh : (v : Notes) (n : ℕ) (marks : List ℕ) → 2 * n ≤ length marks → Fresh v (drop (2 * n) (forgotten n marks))
forgotten-fresh v n marks h =
    subst (Fresh v) (sym (forgotten_cache n marks h))
    (zero-fresh v (replicate (length marks - 2 * n) 0)
    (λ y l. get_or-replicate (length marks - 2 * n) y 0 0 (omega (arith, length-replicate {A = ℕ} (length marks - 2 * n) 0))))

-- ---- changes

module _ (n mask : ℕ) (noise D : List ℕ) (floats : List Float) (marks D' : List ℕ) (floats' : List Float) (marks' : List ℕ) where
  abbrev old : Notes
  old = notes_in n noise D floats marks mask

  abbrev new : Notes
  new = notes_in n noise D' floats' marks' mask

  abbrev Same : ℕ → Type 0
  Same c = SameCell n D floats marks D' floats' marks' c

  -- a cell as it was is the candidate that it was
  candidate_same : (c : ℕ) → c < n → Same c → candidate new c ≡ candidate old c
  unfolding candidate
  candidate_same c l s =
      let kept : note_of noise n c floats' marks' ≡ note_of noise n c floats marks = rw (s.1, s.2) in
      let e : note_at new c ≡ note_at old c = note_at-note_of noise D' floats' marks' mask l ∙ kept ∙ sym (note_at-note_of noise D floats marks mask l) in
      ap (λ (m : Note). cond (valid m.count (get_or D' c 0) mask) (At c m) Empty) e
      ∙ ap (λ (w : ℕ). cond (valid (note_at old c).count w mask) (At c (note_at old c)) Empty) s.0

  -- a block whose cells are as they were has the mark that it had
  code_at_same : (y : ℕ) → ((c : ℕ) → c < n → block_of c ≡ y → Same c) → code_at new y ≡ code_at old y
  unfolding code_at
  code_at_same y s =
      ap (code (start_of y)) (best_in_same new old (start_of y) 32 (λ c p q.
      elim (dec_lt c n) [
        | yes l ↦ candidate_same c l (s c l (omega arith))
        | no o ↦ candidate-out new c (omega (arith, length-take n marks')) ∙ sym (candidate-out old c (omega (arith, length-take n marks)))
      ]))

  -- a block that was not touched has its mark still
  mark-stays : (y : ℕ) → get_or marks' (block_at n y) 0 ≡ get_or marks (block_at n y) 0 → ((c : ℕ) → c < n → block_of c ≡ y → Same c)
      → (get_or (drop (2 * n) marks) y 0 ≡ 0) ⊎ (get_or (drop (2 * n) marks) y 0 ≡ code_at old y)
      → (get_or (drop (2 * n) marks') y 0 ≡ 0) ⊎ (get_or (drop (2 * n) marks') y 0 ≡ code_at new y)
  mark-stays y e s =
      let same : get_or (drop (2 * n) marks') y 0 ≡ get_or (drop (2 * n) marks) y 0 = get_or-drop (2 * n) marks' y 0 ∙ e ∙ sym (get_or-drop (2 * n) marks y 0) in
      ⊎_elim (λ z. inl (same ∙ z)) (λ z. inr (same ∙ z ∙ sym (code_at_same y s)))

-- every block in which something changed was touched, so each mark is 0 or what a look gives now
pub fresh-watched : {n mask : ℕ} {noise D marks D' marks' : List ℕ} {floats floats' : List Float} → length marks ≡ 2 * n + blocks n
    → Watched n D floats marks D' floats' marks' → Fresh (notes_in n noise D floats marks mask) (drop (2 * n) marks)
    → Fresh (notes_in n noise D' floats' marks' mask) (drop (2 * n) marks')
fresh-watched {n} {mask} {noise} {D} {marks} {D'} {marks'} {floats} {floats'} long w f = record { at = λ y h. at y (omega (arith, length-drop (2 * n) marks', w.long)) }
  where
    at : (y : ℕ) → y < blocks n
        → (get_or (drop (2 * n) marks') y 0 ≡ 0) ⊎ (get_or (drop (2 * n) marks') y 0 ≡ code_at (notes_in n noise D' floats' marks' mask) y)
    at y l =
        ⊎_elim (λ z. inl (get_or-drop (2 * n) marks' y 0 ∙ z))
        (λ s. mark-stays n mask noise D floats marks D' floats' marks' y s.0 s.1 (f.at y (omega (arith, length-drop (2 * n) marks)))) (w.each y l)

-- ---- after an observation

pub length-codes : (v : Notes) (i k : ℕ) → length (codes v i k) ≡ k
unfolding codes
length-codes v i zero = refl
length-codes v i (suc k) = ap suc (length-codes v (suc i) k)

get_or-codes : (v : Notes) (i k j : ℕ) → j < k → get_or (codes v i k) j 0 ≡ code_at v (i + j)
unfolding codes
get_or-codes v i zero j h = absurd (not-suc-le-zero h)
get_or-codes v i (suc k) zero h = ap (code_at v) (sym (add-zero i))
get_or-codes v i (suc k) (suc j) h = get_or-codes v (suc i) k j (le_of_suc-le-suc h) ∙ ap (code_at v) (suc-add i j ∙ sym (add-suc i j))

-- marks that are all what a look gives
pub looked-codes : (v : Notes) (cache : List ℕ) (k : ℕ) → length cache ≡ k → ((j : ℕ) → j < k → get_or cache j 0 ≡ code_at v j) → cache ≡ codes v 0 k
looked-codes v cache k e f =
    ext_get_or 0 cache (codes v 0 k) (e ∙ sym (length-codes v 0 k))
    (λ j h. let p : j < k = omega arith in f j p ∙ sym (get_or-codes v 0 k j p ∙ ap (code_at v) (zero-add j)))

codes-fresh : (v : Notes) (k : ℕ) → Fresh v (codes v 0 k)
codes-fresh v k = record { at = λ y h. inr (get_or-codes v 0 k y (omega (arith, length-codes v 0 k)) ∙ ap (code_at v) (zero-add y)) }

module _ (n : ℕ) (v : Notes) (marks : List ℕ) where
  pub recoded-front : 2 * n ≤ length marks → take (2 * n) (recoded n v marks) ≡ take (2 * n) marks
  unfolding recoded
  recoded-front h = take_at (take (2 * n) marks) (codes v 0 (blocks n)) (2 * n) (front_long n marks h)

  recoded_cache : 2 * n ≤ length marks → drop (2 * n) (recoded n v marks) ≡ codes v 0 (blocks n)
  unfolding recoded
  recoded_cache h = drop_at (take (2 * n) marks) (codes v 0 (blocks n)) (2 * n) (front_long n marks h)

  pub recoded-length : length marks ≡ 2 * n + blocks n → length (recoded n v marks) ≡ length marks
  unfolding recoded
  recoded-length e =
      length-append (take (2 * n) marks) (codes v 0 (blocks n)) ∙ omega (arith, front_long n marks (omega arith), length-codes v 0 (blocks n))

module _ (n : ℕ) (noise D : List ℕ) (floats : List Float) (marks : List ℕ) (mask : ℕ) (h : 2 * n ≤ length marks) where
  pub recoded-notes : (v : Notes) → notes_in n noise D floats (recoded n v marks) mask ≡ notes_in n noise D floats marks mask
  recoded-notes v = notes_in-front n noise D floats marks (recoded n v marks) mask (recoded-front n v marks h)

  pub recoded-fresh : let v = notes_in n noise D floats marks mask in Fresh (notes_in n noise D floats (recoded n v marks) mask) (drop (2 * n) (recoded n v marks))
  recoded-fresh =
      let v = notes_in n noise D floats marks mask in
      rw (recoded-notes v, recoded_cache n v marks h) (codes-fresh v (blocks n))
