-- The start is ready, removals that are asked for keep a state ready, and so the propagation of any removals from full domains settles.
-- Follows docs/RULES.md, "Propagation". Assumes nothing.
use mathlib.Core.List.{List, [], ◌∷◌}
use mathlib.Core.Path.{◌≡◌, refl, sym, ap, ap₂, subst, ◌∙◌}
use Prim.Native.Nat.{ℕ, zero, suc, ◌+◌, ◌*◌, ◌/◌, ◌%◌, ◌≤◌, ◌<◌}
use native.Mathlib.Omega.{arith}
use lib.Arith.{digits_lt, digits_mod}
use lib.ListN.{length, get_or}
use Rattle.loops.specs.Sums.{sum_to}
use Rattle.directions.specs.Directions.{opposite}
use Rattle.adjacency.specs.Tables.{Table, list_of}
use Rattle.adjacency.specs.Accepted.{Accepted}
use Rattle.grid.specs.Grid.{Grid, cells}
use Rattle.consistency.specs.Domains.{possible, filled}
use Rattle.consistency.specs.Worklist.{Removal, State, place, forbid_at, forbid, forbids}
use Rattle.consistency.specs.Start.{tabulated, start_counts, start, reduced}
use Rattle.consistency.specs.Parts.{removed_all}
use Rattle.consistency.specs.Safe.{total, Inside}
use Rattle.loops.proofs.SumLaws.{sum-most}
use Rattle.words.proofs.BitLaws.{bit-lt}
use Rattle.directions.proofs.DirectionLaws.{opposite-below}
use Rattle.consistency.proofs.DomainLaws.{possible-filled, fit-filled, emptied-filled}
use Rattle.consistency.proofs.RemovedAllLaws.{forbids-removed_all}
use Rattle.consistency.proofs.ConsistentLaws.{supports_filled, full-consistent}
use Rattle.consistency.proofs.GreatestLaws.{greatest-self}
use Rattle.consistency.proofs.Owed.{nothing-due, owed}
use Rattle.consistency.proofs.Steps.{exact-remove}
use Rattle.consistency.proofs.Settled.{Ready, Settled, settled}

-- ---- tabulated lists

pub length-tabulated : (i n : ℕ) (f : ℕ → ℕ) → length (tabulated i n f) ≡ n
unfolding tabulated
length-tabulated i zero f = refl
length-tabulated i (suc n) f = ap suc (length-tabulated (suc i) n f)

pub get_or-tabulated : (i n k : ℕ) (f : ℕ → ℕ) → k < n → get_or (tabulated i n f) k 0 ≡ f (i + k)
unfolding tabulated
get_or-tabulated i zero k f h = absurd (omega arith)
get_or-tabulated i (suc n) zero f h = ap f (omega arith)
get_or-tabulated i (suc n) (suc k) f h = get_or-tabulated (suc i) n k f (omega arith) ∙ ap f (omega arith)

-- ---- the start

-- pattern q's count from direction d, where it starts
pub start-count : (t : Table) (m n q d : ℕ) → n < m → q < t.count → d < 4
    → get_or (start_counts t m) (place t.count n q d) 0 ≡ length (list_of t q (opposite d))
unfolding start_counts
start-count t m n q d hn hq hd =
    get_or-tabulated 0 (m * t.count * 4) (place t.count n q d) (λ i. length (list_of t (i / 4 % t.count) (opposite (i % 4)))) (digits_lt (digits_lt hn hq) hd)
    ∙ ap₂ (λ (p e : ℕ). length (list_of t p (opposite e))) (ap (λ (x : ℕ). x % t.count) slot ∙ digits_mod n hq) direction
  where
    slot : (0 + place t.count n q d) / 4 ≡ n * t.count + q
    slot = omega arith

    direction : (0 + place t.count n q d) % 4 ≡ d
    direction = omega arith

module _ (t : Table) (g : Grid) (A : Accepted t) {X : Type 0} where
  pub start-ready : (x : X) → Ready t g (start t g x)
  unfolding start owed total
  start-ready x =
      record {
        safe =
            record {
              sized = unfold start_counts in (length-tabulated 0 (cells g * t.count * 4) _);
              fit = fit-filled t.count (cells g);
              inside = tt;
              room = omega (arith, sum-most (cells g) t.count _ (λ c hc. most c));
              dead = λ n q d hn hq hd a. absurd (omega (arith, possible-filled t.count (cells g) n q hn hq));
              told = sym (emptied-filled t.count (cells g) A.some);
            };
        counted =
            record {
              exact = λ n q d hn hq hd a. omega (arith, start-count t (cells g) n q d hn hq hd, supports_filled t g A n q d hn hq hd);
              live = λ n q d hn hq hd a. omega (arith, start-count t (cells g) n q d hn hq hd, A.listed.filled q (opposite d) hq (opposite-below d hd));
            };
      }
    where
      full : List ℕ
      full = filled t.count (cells g)

      most : (c : ℕ) → sum_to t.count (λ p. possible full c p) ≤ t.count
      most c = omega (arith, sum-most t.count 1 (λ p. possible full c p) (λ p hp. omega (arith, bit-lt (get_or full c 0) p)))

  -- full domains are where their propagation ends
  pub start-settled : (x : X) → Settled t g (filled t.count (cells g)) (start t g x)
  unfolding start
  start-settled x =
      record {
        rest = filled t.count (cells g);
        greatest = greatest-self t g (filled t.count (cells g)) (fit-filled t.count (cells g)) (full-consistent t g A);
        contradiction = sym (emptied-filled t.count (cells g) A.some);
        left = λ _. refl;
        ended = λ _. refl;
        ready = λ _. start-ready x;
        safe = (start-ready x).safe;
      }

  -- ---- removals that are asked for

  module _ (keep : Removal → List ℕ → X → X) where
    forbid_at-ready : (b : ℕ) (u : Removal) (s : State X) → u.cell < cells g → u.pattern < t.count → possible s.domains u.cell u.pattern ≡ b
        → Ready t g s → Ready t g (forbid_at t.count keep b u s)
    unfolding forbid_at
    forbid_at-ready zero u s hc hp e R = R
    forbid_at-ready (suc b) u s hc hp e R =
        exact-remove t g keep _ s nothing-due nothing-due u R hc hp (omega (arith, bit-lt (get_or s.domains u.cell 0) u.pattern)) (λ n q d hq hd z. refl)

    pub forbid-ready : (u : Removal) (s : State X) → u.cell < cells g → u.pattern < t.count → Ready t g s → Ready t g (forbid t.count keep u s)
    unfolding forbid
    forbid-ready u s hc hp R = forbid_at-ready (possible s.domains u.cell u.pattern) u s hc hp refl R

    pub forbids-ready : (us : List Removal) (s : State X) → Inside t.count (cells g) us → Ready t g s → Ready t g (forbids t.count keep us s)
    unfolding forbids
    forbids-ready [] s i R = R
    forbids-ready (u ∷ us) s i R = forbids-ready us (forbid t.count keep u s) i.2 (forbid-ready u s i.0 i.1 R)

    -- the propagation of any removals from full domains settles what they leave
    pub reduced-settled : (x : X) (us : List Removal) → Inside t.count (cells g) us
        → Settled t g (removed_all us (filled t.count (cells g))) (reduced t g keep x us)
    unfolding reduced start
    reduced-settled x us i =
        subst (λ (D : List ℕ). Settled t g D (reduced t g keep x us)) (forbids-removed_all t.count keep us (start t g x))
        (settled t g A keep (forbids t.count keep us (start t g x)) (forbids-ready us (start t g x) i (start-ready x)))
