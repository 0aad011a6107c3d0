-- Laws of withdrawing what starting domains lack: one pattern, all that a cell lacks, and cell after cell; and of looking for an empty cell.
-- Follows docs/RULES.md, "Propagation". Assumes nothing.
use mathlib.Core.Bool.{Bool, true, false, ◌||◌}
use mathlib.Core.List.{List, []}
use mathlib.Core.Path.{◌≡◌, refl, sym, ap, ◌∙◌}
use Prim.Native.Nat.{ℕ, suc, ◌+◌, ◌*◌, ◌^◌, ◌≤◌, ◌<◌}
use native.Mathlib.Nat.{add-zero, mul-le-mul_right}
use native.Mathlib.Numerals.{add-one}
use native.Mathlib.Omega.{arith}
use lib.Dec.{eqb}
use lib.ListN.{length, get_or, set, drop, drop_of_length-le}
use lib.Seq.{drop-cons}
use borrow.Author.Tests.{eq-eqb, ne_eqb}
use Rattle.words.specs.Words.{bit, has, without, lacked, least}
use Rattle.consistency.specs.Domains.{emptied}
use Rattle.consistency.specs.Worklist.{Removal, removal, four_cleared}
use Rattle.consistency.specs.Start.{failing, missing}
use Rattle.consistency.specs.Withdrawn.{Work, work, withdraw, withdrawn}
use Rattle.propagation.specs.Lent.{pending_of}
use Rattle.starting.specs.Given.{Starting, Spacious}
use Rattle.words.proofs.BitLaws.{lacked-lt}
use Rattle.words.proofs.ChangeLaws.{without-less}
use Rattle.words.proofs.LeastLaws.{least-found}
use Rattle.consistency.proofs.FailingLaws.{lacks, length-failing, patterns-lacked, patterns_none, patterns_next}
use Rattle.consistency.proofs.WithdrawnLaws.{withdrawn-append, length-withdrawn}
use Rattle.propagation.proofs.LentLaws.{pending-length, pending-push}

-- ---- one pattern

pub slot-narrow : {P cell p : ℕ} {counts : List ℕ} → Spacious P cell counts → p < P → cell * P + p < 65536
slot-narrow {P} {cell} {p} S h = omega (arith, S.patterns, mul-le-mul_right P S.near)

-- room depends on the length alone
pub spacious_long : {P cell : ℕ} {counts counts' : List ℕ} → Spacious P cell counts → length counts' ≡ length counts → Spacious P cell counts'
spacious_long S e = record { some = S.some; patterns = S.patterns; near = S.near; roomy = omega (arith, S.roomy) }

pub withdraw-is : (P cell p top : ℕ) (counts pending : List ℕ) {counts' : List ℕ} {slot : ℕ} → p < P → top < length pending
    → counts' ≡ four_cleared counts ((cell * P + p) * 4) → slot ≡ cell * P + p
    → work counts' (pending_of P (set pending top slot) (top + 1)) ≡ withdraw P (removal cell p) (work counts (pending_of P pending top))
unfolding withdraw
withdraw-is P cell p top counts pending hp ht c s = rw (c, s, pending-push P pending top cell p hp ht, add-zero)

-- ---- all that a cell lacks

-- `left` are the patterns that are still to be withdrawn
pub record Lacking (P cell word height : ℕ) (counts₀ pending₀ : List ℕ) (counts pending : List ℕ) (top left : ℕ) : Type 0 where
  pub narrow : left < 2 ^ P
  pub rest : withdrawn P (failing (lacks left) P 0 cell) (work counts (pending_of P pending top)) ≡ withdrawn P (failing (has word) P 0 cell) (work counts₀ (pending_of P pending₀ height))
  pub counts-long : length counts ≡ length counts₀
  pub pending-long : length pending ≡ length pending₀

module _ {P cell word height : ℕ} {counts₀ pending₀ : List ℕ} where
  pub lacking_start : word < 2 ^ P → Lacking P cell word height counts₀ pending₀ counts₀ pending₀ height (lacked P word)
  lacking_start h =
      record {
        narrow = lacked-lt P word;
        rest = ap (λ (us : List Removal). withdrawn P us (work counts₀ (pending_of P pending₀ height))) (sym (patterns-lacked P cell word h));
        counts-long = refl;
        pending-long = refl;
      }

  module _ {counts pending : List ℕ} {top left : ℕ} (L : Lacking P cell word height counts₀ pending₀ counts pending top left) where
    -- nothing is left
    pub lacking_end : left ≡ 0 → work counts (pending_of P pending top) ≡ withdrawn P (failing (has word) P 0 cell) (work counts₀ (pending_of P pending₀ height))
    unfolding withdrawn
    lacking_end e =
        ap (λ (us : List Removal). withdrawn P us (work counts (pending_of P pending top))) (sym (ap (λ (w : ℕ). failing (lacks w) P 0 cell) e ∙ patterns_none P cell))
        ∙ L.rest

    module _ (few : P ≤ 64) (some : left ≡ 0 → ⊥) where
      pub lacking_next : (least 64 left < P) × (bit left (least 64 left) ≡ 1)
      lacking_next = least-found 64 P left few L.narrow some

      -- the pile has room for what is left
      pub lacking_low : height + P ≤ length pending₀ → top < length pending
      lacking_low h =
          omega (
            arith,
            ap (λ (m : Work). length m.pending) L.rest,
            length-withdrawn P (failing (lacks left) P 0 cell) (work counts (pending_of P pending top)),
            length-withdrawn P (failing (has word) P 0 cell) (work counts₀ (pending_of P pending₀ height)),
            pending-length P pending top,
            pending-length P pending₀ height,
            ap length (patterns_next P cell 64 left few L.narrow some),
            length-failing (has word) P 0 cell,
            L.pending-long,
          )

      pub lacking_turn : {counts' pending' : List ℕ} → work counts' (pending_of P pending' (top + 1)) ≡ withdraw P (removal cell (least 64 left)) (work counts (pending_of P pending top))
          → length counts' ≡ length counts → length pending' ≡ length pending
          → Lacking P cell word height counts₀ pending₀ counts' pending' (top + 1) (without left (least 64 left))
      unfolding withdrawn
      lacking_turn e c p =
          let us = failing (lacks (without left (least 64 left))) P 0 cell in
          record {
            narrow = omega (arith, L.narrow, without-less left (least 64 left) lacking_next.1);
            rest =
                ap (withdrawn P us) e
                ∙ ap (λ (vs : List Removal). withdrawn P vs (work counts (pending_of P pending top))) (sym (patterns_next P cell 64 left few L.narrow some))
                ∙ L.rest;
            counts-long = c ∙ L.counts-long;
            pending-long = p ∙ L.pending-long;
          }

-- ---- cell after cell

-- the cells before `cell` are done
pub record Passing (P : ℕ) (D counts₀ pending₀ : List ℕ) (counts pending : List ℕ) (top cell : ℕ) : Type 0 where
  pub inside : cell ≤ length D
  pub low : top ≤ cell * P
  pub rest : withdrawn P (missing P cell (drop cell D)) (work counts (pending_of P pending top)) ≡ withdrawn P (missing P 0 D) (work counts₀ [])
  pub counts-long : length counts ≡ length counts₀
  pub pending-long : length pending ≡ length pending₀

module _ {P : ℕ} {D counts₀ pending₀ : List ℕ} where
  pub passing-start : Passing P D counts₀ pending₀ counts₀ pending₀ 0 0
  unfolding pending_of
  passing-start = record { inside = omega arith; low = omega arith; rest = refl; counts-long = refl; pending-long = refl }

  module _ {counts pending : List ℕ} {top cell : ℕ} (S : Passing P D counts₀ pending₀ counts pending top cell) where
    -- what the next cell needs
    pub passing-asks : Starting P D counts₀ pending₀ → cell < length D → Spacious P cell counts × (get_or D cell 0 < 2 ^ P) × (top + P ≤ length pending)
    passing-asks G h =
        let room : suc cell * P ≤ length D * P = mul-le-mul_right P h in (
          record { some = G.some; patterns = G.patterns; near = omega (arith, G.cells); roomy = omega (arith, G.counted, S.counts-long) },
          G.fit.words cell,
          omega (arith, S.low, G.tall, S.pending-long),
        )

    pub passing-turn : {counts' pending' : List ℕ} {r : ℕ} → cell < length D
        → work counts' (pending_of P pending' r) ≡ withdrawn P (failing (has (get_or D cell 0)) P 0 cell) (work counts (pending_of P pending top))
        → length counts' ≡ length counts → length pending' ≡ length pending → Passing P D counts₀ pending₀ counts' pending' r (cell + 1)
    unfolding missing
    passing-turn {counts'} {pending'} {r} h e c p =
        let us = failing (has (get_or D cell 0)) P 0 cell in
        let W = work counts (pending_of P pending top) in
        record {
          inside = omega arith;
          low =
              omega (
                arith,
                S.low,
                pending-length P pending' r,
                ap (λ (m : Work). length m.pending) e,
                length-withdrawn P us W,
                pending-length P pending top,
                length-failing (has (get_or D cell 0)) P 0 cell,
              );
          rest =
              rw (e, add-one cell)
              (sym (withdrawn-append P us (missing P (suc cell) (drop (suc cell) D)) W)
              ∙ ap (λ (l : List ℕ). withdrawn P (missing P cell l) W) (sym (drop-cons D cell 0 h)) ∙ S.rest);
          counts-long = c ∙ S.counts-long;
          pending-long = p ∙ S.pending-long;
        }

    pub passing-end : length D ≤ cell → work counts (pending_of P pending top) ≡ withdrawn P (missing P 0 D) (work counts₀ [])
    unfolding missing withdrawn
    passing-end h = ap (λ (l : List ℕ). withdrawn P (missing P cell l) (work counts (pending_of P pending top))) (sym (drop_of_length-le D h)) ∙ S.rest

-- ---- an empty cell

module _ (D : List ℕ) {R : Bool} {cell : ℕ} where
  empty-here : cell < length D → emptied (drop cell D) ≡ R → (eqb (get_or D cell 0) 0 || emptied (drop (cell + 1) D)) ≡ R
  unfolding emptied
  empty-here h inv = rw add-one (rw (drop-cons D cell 0 h) at inv)

  pub empty-turn : cell < length D → (get_or D cell 0 ≡ 0 → ⊥) → emptied (drop cell D) ≡ R → emptied (drop (cell + 1) D) ≡ R
  empty-turn h n inv = rw (ne_eqb _ _ n) at (empty-here h inv)

  pub empty-found : cell < length D → get_or D cell 0 ≡ 0 → emptied (drop cell D) ≡ R → true ≡ R
  empty-found h e inv = rw (eq-eqb _ _ e) at (empty-here h inv)

  pub empty-end : length D ≤ cell → emptied (drop cell D) ≡ R → false ≡ R
  unfolding emptied
  empty-end h inv = rw (drop_of_length-le D h) at inv
