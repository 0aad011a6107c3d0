-- Laws of the run of a sheet that was read: lent so, `sheet::run_result` refuses nothing but the noise, and leaves the run's own outcome.
-- Assumes nothing.
use mathlib.Core.Bool.{Bool, true, false, not, cond, ◌||◌}
use mathlib.Core.List.{List, ◌++◌}
use mathlib.Core.Path.{◌≡◌, refl, sym, ap, ◌∙◌}
use Prim.Native.Nat.{ℕ, ◌+◌, ◌*◌, ◌≤◌}
use native.Mathlib.Omega.{arith}
use lib.Dec.{eqb}
use lib.Ieee.{Float}
use lib.ListN.{length, take, drop, length-append, take-append-drop}
use lib.Seq.{length-take-le}
use borrow.Author.Tests.{le-ltb, eq-eqb}
use Rattle.records.specs.Numbers.{u16, u64s}
use Rattle.records.specs.Laying.{over}
use Rattle.refusals.specs.Refusals.{Asked}
use Rattle.adjacency.specs.Tables.{Table}
use Rattle.adjacency.specs.Checks.{weights_misfit}
use Rattle.grid.specs.Grid.{Grid, cells}
use Rattle.notes.specs.Blocks.{blocks}
use Rattle.course.specs.Run.{Given, Ended, run_of}
use Rattle.course.specs.Called.{Memory, memory, Measured, room_of, bad_memory, bad_lengths, End, finished, cleared}
use Rattle.forbids.specs.Forbids.{forbids_of, records_in}
use Rattle.sheet.specs.Result.{result_of, short, result_tests, ResultOutcome, result_outcome, result_at, result_called}
use Rattle.bounded.specs.Laid.{Told, refused, answer, Finish, finish, run_told, ran_of, Outcome, outcome, laid_at, Runnable}
use Rattle.records.proofs.NumberLaws.{length-u16, length-u64s}
use Rattle.records.proofs.RecordLaws.{length-record_of}
use Rattle.sheet.proofs.ResultLaws.{room-there}
use Rattle.sheet.proofs.CalledLaws.{sheet-length, sheet-content}
use Rattle.sheet.proofs.StorableLaws.{scalars-good}
use Rattle.adjacency.proofs.AcceptedLaws.{long-good}
use Rattle.course.specs.Called as call

-- a result is 10 bytes, and 8 for each cell
pub length-result_of : (e : Ended) → length (result_of e) ≡ 10 + 8 * length e.domains
unfolding result_of
length-result_of e =
    omega
    (arith, length-record_of 5 (u16 e.end ++ (u16 e.used ++ u64s e.domains)), length-append (u16 e.end) (u16 e.used ++ u64s e.domains), length-append (u16 e.used) (u64s e.domains), length-u16 e.end, length-u16 e.used, length-u64s e.domains)

module _ (i : Given) (ns : List ℕ) (R : Runnable i.table i.weights i.grid ns) (m : Memory) (M : Measured i.table.count (cells i.grid) m) (out : List ℕ) (room : 10 + 8 * cells i.grid ≤ length out) where
  -- memory of these lengths fits
  memory-fits : bad_memory i.table.count (cells i.grid) (room_of m) ≡ false
  unfolding bad_memory
  memory-fits =
      rw (eq-eqb _ _ M.domains, eq-eqb _ _ M.counts, eq-eqb _ _ M.pending, eq-eqb _ _ M.floats, eq-eqb _ _ M.marks)

  -- so the lengths misfit only where the noise does
  lengths_noise : (bad_lengths i.table.count (cells i.grid) i.weights i.table.offsets i.noise (records_in ns) (room_of m) || short i.grid (length out))
      ≡ not (eqb (length i.noise) (cells i.grid))
  unfolding bad_lengths weights_misfit
  lengths_noise =
      rw
      (eq-eqb (length i.weights) i.table.count R.one_each, long-good i.table.count i.table.offsets R.starts, memory-fits, le-ltb 4096 (records_in ns) R.few, room-there i.grid (length out) room)
      (go (not (eqb (length i.noise) (cells i.grid))))
    where
      go : (v : Bool) → (false || false || v || false || false || false) ≡ v
      go true = refl
      go false = refl

  -- what a call of `run_result` comes to
  pub result-ran : (words : List ℕ)
      → result_called i ns words m out
      ≡ cond (eqb (length i.noise) (cells i.grid)) (result_at 0 i (forbids_of ns) words m out) (result_at 5 i (forbids_of ns) words m out)
  unfolding result_called result_tests
  result-ran words = go (eqb (length i.noise) (cells i.grid)) refl
    where
      misfit : Bool
      misfit = bad_lengths i.table.count (cells i.grid) i.weights i.table.offsets i.noise (records_in ns) (room_of m) || short i.grid (length out)

      go : (v : Bool) → eqb (length i.noise) (cells i.grid) ≡ v
          → result_called i ns words m out ≡ cond v (result_at 0 i (forbids_of ns) words m out) (result_at 5 i (forbids_of ns) words m out)
      go true q = ap (λ (n : ℕ). result_at n i (forbids_of ns) words m out) (sheet-content misfit i.table i.weights i.grid ns R.scalars (lengths_noise ∙ ap not q) ∙ R.content)
      go false q = ap (λ (n : ℕ). result_at n i (forbids_of ns) words m out) (sheet-length misfit i.table i.weights i.grid ns R.scalars (lengths_noise ∙ ap not q))

  -- what was told and left, where the domains that were lent are the front of longer ones, is what `lay` comes to
  pub lay-ran : (words domains : List ℕ) {told : Asked End} {x : Told Finish} {m' : Memory} {out' : List ℕ} → m.domains ≡ take (cells i.grid) domains
      → length m'.domains ≡ length m.domains → result_outcome (call.outcome told m') out' ≡ result_called i ns words m out → x ≡ run_told told (cells i.grid)
      → outcome x (m'.domains ++ drop (cells i.grid) domains) out' ≡ laid_at (ran_of i ns words) domains out
  unfolding ran_of result_at finished cleared run_told laid_at over
  lay-ran words domains {told} {x} {m'} {out'} front kept q f =
      ap (λ (t : Told Finish). outcome t (m'.domains ++ drop (cells i.grid) domains) out') f ∙ go (eqb (length i.noise) (cells i.grid)) (q ∙ result-ran words)
    where
      n : ℕ
      n = cells i.grid

      e : Ended
      e = run_of i (forbids_of ns) words

      left : ResultOutcome → Outcome
      left o = outcome (run_told o.run.told n) (o.run.memory.domains ++ drop n domains) o.out

      go : (v : Bool) → result_outcome (call.outcome told m') out' ≡ cond v (result_at 0 i (forbids_of ns) words m out) (result_at 5 i (forbids_of ns) words m out)
          → left (result_outcome (call.outcome told m') out') ≡ laid_at (cond v (answer e) (refused 5)) domains out
      go true q =
          let many : length e.domains ≡ cells i.grid = sym (ap (λ (o : ResultOutcome). length o.run.memory.domains) q) ∙ kept ∙ M.domains in
          let size : 10 + 8 * cells i.grid ≡ length (result_of e) = omega (arith, length-result_of e) in
          ap left q
          ∙ (λ j. outcome (answer (finish e.end e.used (size j))) (e.domains ++ drop (sym many j) domains) (over (result_of e) out))
      go false q = ap left q ∙ (λ j. outcome (refused 5) ((ap (λ (l : List ℕ). l ++ drop n domains) front ∙ take-append-drop n domains) j) out)

-- ---- what is lent to a run

-- sides and count that are not refused have at most 1,024 cells
pub runnable_few : {t : Table} {weights : List ℕ} {g : Grid} {forbids : List ℕ} → Runnable t weights g forbids → cells g ≤ 1024
runnable_few {t} {weights} {g} R = (scalars-good t.count g R.scalars).1.few

-- the fronts of memory for 1,024 cells and 4,096 cells times patterns are as long as a run wants them
pub lent-measured : (n P : ℕ) (domains counts pending : List ℕ) (floats : List Float) (marks : List ℕ) → n ≤ 1024 → n * P ≤ 4096 → 1024 ≤ length domains
    → 16384 ≡ length counts → 4096 ≡ length pending → 2048 ≡ length floats → 2080 ≡ length marks
    → Measured P n (memory (take n domains) (take (4 * (n * P)) counts) (take (n * P) pending) (take (2 * n) floats) (take (2 * n + blocks n) marks))
lent-measured n P domains counts pending floats marks few small e₁ e₂ e₃ e₄ e₅ =
    record {
      domains = length-take-le n domains (omega arith);
      counts = omega (arith, length-take-le (4 * (n * P)) counts (omega arith));
      pending = length-take-le (n * P) pending (omega arith);
      floats = length-take-le (2 * n) floats (omega arith);
      marks = length-take-le (2 * n + blocks n) marks (omega arith);
    }
