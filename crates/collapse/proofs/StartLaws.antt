-- Laws of how a run starts and of what it leaves in memory. Follows docs/RULES.md, "Run" and "Refusals".
-- Assumes nothing.
use mathlib.Core.Bool.{false}
use mathlib.Core.List.{List, ◌++◌, append-nil, []}
use mathlib.Core.Path.{◌≡◌, refl, sym, ◌∙◌, ap}
use Prim.Native.Nat.{ℕ, zero, suc, ◌+◌, ◌-◌, ◌*◌, ◌≤◌, ◌<◌}
use native.Mathlib.Nat.{le_refl}
use native.Mathlib.Omega.{arith}
use lib.Ieee.{Float, binary32, of_bits}
use lib.ListN.{length, take, drop, replicate, length-append, length-drop, length-replicate, replicate-append-replicate, drop_of_length-le}
use lib.Seq.{take-append-add, take_at}
use lib.Pow.{pow_mono}
use borrow.Author.Tests.{le-leb, lt-leb, eq-eqb, ne_eqb}
use Rattle.words.specs.Words.{how_many, full}
use Rattle.adjacency.specs.Weights.{whole_weight, weight_sum, mask}
use Rattle.logarithms.specs.Entropy.{running, entropy}
use Rattle.adjacency.specs.Tables.{Table}
use Rattle.grid.specs.Grid.{Grid, cells}
use Rattle.consistency.specs.Domains.{filled}
use Rattle.consistency.specs.Worklist.{state}
use Rattle.consistency.specs.Start.{start_counts, start}
use Rattle.notes.specs.Beside.{beside, beside_in}
use Rattle.course.specs.Run.{first_count, first_entropy, first_beside, given, begun}
use Rattle.course.specs.Called.{memory, Room, cleared}
use Rattle.words.proofs.CountLaws.{many-width}
use Rattle.adjacency.proofs.WeightLaws.{weight_sum-full, mask_lt}

-- ---- the end

-- these domains, and zero over the rest
pub cleared-is : (D : List ℕ) (r : Room) {domains counts pending marks : List ℕ} {floats : List Float} → domains ≡ D → counts ≡ replicate r.counts 0
    → pending ≡ replicate r.pending 0 → floats ≡ replicate r.floats (of_bits binary32 0) → marks ≡ replicate r.marks 0
    → memory domains counts pending floats marks ≡ cleared D r
unfolding cleared
cleared-is D r a b c d e = rw (a, b, c, d, e)

-- ---- the first count

module _ (ws : List ℕ) (few : length ws ≤ 64) {w many : ℕ} (weighed : w ≡ mask ws) (e : many ≡ how_many 64 w) where
  many-first : many ≡ how_many (length ws) (mask ws)
  many-first =
      e ∙ ap (how_many 64) weighed ∙ many-width 64 (length ws) (mask ws) (omega (arith, mask_lt ws, pow_mono {i = length ws} {j = 64} few)) (mask_lt ws)

  pub first_count-some : 2 ≤ many → many ≡ first_count ws
  unfolding first_count
  first_count-some h = rw (le-leb 2 (how_many (length ws) (mask ws)) (omega (arith, h, many-first))) many-first

  pub first_count_none : many < 2 → 0 ≡ first_count ws
  unfolding first_count
  first_count_none h = rw (lt-leb 2 (how_many (length ws) (mask ws)) (omega (arith, h, many-first)))

-- ---- the first entropy

-- the sum of the weights of all patterns
pub sum-whole : (ws : List ℕ) {word sum : ℕ} → word ≡ full (length ws) → sum ≡ weight_sum ws word → sum ≡ whole_weight ws
sum-whole ws w s = s ∙ ap (weight_sum ws) w ∙ weight_sum-full ws

module _ (ws : List ℕ) {n : ℕ} (e : n ≡ first_count ws) where
  pub first_entropy_none : n ≡ 0 → of_bits binary32 0 ≡ first_entropy ws
  unfolding first_entropy
  first_entropy_none h = rw (eq-eqb (first_count ws) 0 (sym e ∙ h))

  pub first_entropy-some : (n ≡ 0 → ⊥) → {sum : ℕ} {value r : Float} → sum ≡ whole_weight ws → value ≡ running ws → r ≡ entropy sum value → r ≡ first_entropy ws
  unfolding first_entropy
  first_entropy-some h {sum} {value} {r} s v r-is =
      rw (ne_eqb (first_count ws) 0 (λ z. h (e ∙ z))) (r-is ∙ ap (λ (k : ℕ). entropy k value) s ∙ ap (λ (x : Float). entropy (whole_weight ws) x) v)

-- ---- one value, or one and then another

module _ {A : Type 0} where
  -- a list is filled to its end
  pub fill-whole : (v : A) (l : List A) (n : ℕ) → length l ≤ n → replicate n v ++ drop n l ≡ replicate n v
  fill-whole v l n h = ap (λ (rest : List A). replicate n v ++ rest) (drop_of_length-le l h) ∙ append-nil (replicate n v)

  drop-first : (v : A) (n m : ℕ) → drop n (replicate n v ++ replicate m v) ≡ replicate m v
  drop-first v zero m = refl
  drop-first v (suc n) m = drop-first v n m

  -- its first part is filled again
  pub fill-first : (u v : A) (k n : ℕ) → n ≤ k → replicate n u ++ drop n (replicate k v) ≡ replicate n u ++ replicate (k - n) v
  fill-first u v k n h =
      let whole : k ≡ n + (k - n) = omega (arith, h) in
      ap (λ (l : List A). replicate n u ++ drop n l) (ap (λ (j : ℕ). replicate j v) whole ∙ sym (replicate-append-replicate n (k - n) v))
      ∙ ap (λ (l : List A). replicate n u ++ l) (drop-first v n (k - n))

  -- its first half is
  fill-half : (u v : A) (k n : ℕ) → k ≡ 2 * n → replicate n u ++ drop n (replicate k v) ≡ replicate n u ++ replicate n v
  fill-half u v k n e =
      let rest : k - n ≡ n = omega (arith, e) in
      fill-first u v k n (omega (arith, e)) ∙ ap (λ (j : ℕ). replicate n u ++ replicate j v) rest

  take-first : (v : A) (n k : ℕ) → n ≤ k → take n (replicate k v) ≡ replicate n v
  take-first v n k h =
      let whole : k ≡ n + (k - n) = omega (arith, h) in
      ap (λ (j : ℕ). take n (replicate j v)) whole ∙ ap (take n) (sym (replicate-append-replicate n (k - n) v))
      ∙ take_at (replicate n v) (replicate (k - n) v) n (length-replicate n v)

  -- what goes on past the halves is cut off
  pub cut-halves : (u v : A) (n k : ℕ) → 2 * n ≤ k → {l : List A} → l ≡ replicate n u ++ replicate (k - n) v → take (2 * n) l ≡ replicate n u ++ replicate n v
  cut-halves u v n k h e =
      let two : 2 * n ≡ length (replicate n u) + n = omega (arith, length-replicate n u) in
      ap (take (2 * n)) e ∙ ap (λ (j : ℕ). take j (replicate n u ++ replicate (k - n) v)) two
      ∙ take-append-add (replicate n u) (replicate (k - n) v) n ∙ ap (λ (l : List A). replicate n u ++ l) (take-first v n (k - n) (omega (arith, h)))

  -- both in turn
  pub fill-halves : (u v : A) (n : ℕ) (l : List A) {mid end : List A} → length l ≡ 2 * n → mid ≡ replicate (length l) v ++ drop (length l) l
      → end ≡ replicate n u ++ drop n mid → end ≡ replicate n u ++ replicate n v
  fill-halves u v n l h m e =
      e ∙ ap (λ (x : List A). replicate n u ++ drop n x) (m ∙ fill-whole v l (length l) (le_refl (length l))) ∙ fill-half u v (length l) n h

-- ---- the state

-- what the parts of the start come to
pub begun-is : (t : Table) (ws : List ℕ) (n word number : ℕ) (D : List ℕ) {counts domains marks : List ℕ} {floats : List Float} → word ≡ full t.count
    → number ≡ first_count ws → length D ≡ n → domains ≡ replicate n word ++ drop n D → counts ≡ start_counts t n
    → floats ≡ replicate n (running ws) ++ replicate n (first_entropy ws)
    → (k : ℕ) → 2 * n ≤ k → marks ≡ replicate n number ++ replicate (k - n) 0
    → (g : Grid) (noise : List ℕ) → n ≡ cells g → state counts domains [] false (beside_in (length domains) floats marks) ≡ begun (given t ws g noise)
unfolding begun start first_beside
begun-is t ws n word number D {counts} {domains} {marks} {floats} w m long d c f size h k g noise e =
    let c' : counts ≡ start_counts t (cells g) = c ∙ ap (start_counts t) e in
    let d' : domains ≡ filled t.count (cells g) =
    d ∙ fill-whole word D n (omega (arith, long)) ∙ ap (λ (x : ℕ). replicate n x) w ∙ ap (λ (j : ℕ). replicate j (full t.count)) e in
    let f' : floats ≡ replicate (cells g) (running ws) ++ replicate (cells g) (first_entropy ws) =
    f ∙ ap (λ (j : ℕ). replicate j (running ws) ++ replicate j (first_entropy ws)) e in
    let many : length domains ≡ n =
    omega (arith, ap length d, length-append (replicate n word) (drop n D), length-replicate n word, length-drop n D, long) in
    let k' : take (2 * length domains) marks ≡ replicate (cells g) (first_count ws) ++ replicate (cells g) 0 =
    ap (λ (j : ℕ). take (2 * j) marks) many ∙ cut-halves number 0 n size h k ∙ ap (λ (x : ℕ). replicate n x ++ replicate n 0) m ∙ ap (λ (j : ℕ). replicate j (first_count ws) ++ replicate j 0) e in
    (λ j. state (c' j) (d' j) [] false (beside (f' j) (k' j)))
