-- What a removal owes: the supports that it is still to take are, place by place, those that the removed pattern gave.
-- Assumes nothing.
use mathlib.Core.Bool.{cond}
use mathlib.Core.List.{List, [], ◌∷◌}
use Rattle.std.specs.Prelude.{Option, None, Some}
use mathlib.Core.Path.{◌≡◌, refl, ap}
use Prim.Native.Nat.{ℕ, ◌+◌, ◌*◌, ◌<◌}
use native.Mathlib.Decide.{ℕ_discrete}
use native.Mathlib.Omega.{arith}
use lib.Dec.{lit<, eqb}
use lib.ListN.{length}
use borrow.Author.Tests.{eq-eqb, ne_eqb}
use Rattle.directions.specs.Directions.{opposite}
use Rattle.adjacency.specs.Tables.{Table, list_of}
use Rattle.adjacency.specs.Accepted.{AllBelow, Accepted}
use Rattle.grid.specs.Grid.{Grid, cells, neighbour}
use Rattle.consistency.specs.Worklist.{Removal, place}
use Rattle.loops.proofs.SumLaws.{same, same_yes, same_no}
use Rattle.directions.proofs.DirectionLaws.{of_four}
use Rattle.grid.proofs.GridLaws.{neighbour-opposite}
use Rattle.adjacency.proofs.Times.{times}
use Rattle.consistency.proofs.Counting.{Net, gives, gives-yes, gives-no, place-inj}

-- the table and the grid as a net of supports
abbrev pub net_of : Table → Grid → Net
net_of t g =
    record {
      cells = cells g;
      count = t.count;
      back = λ n d. neighbour g n (opposite d);
      ways = λ r d q. times q (list_of t r d);
      slack = λ n q d. length (list_of t q (opposite d));
    }

-- supports still to be taken: at each cell, from each pattern, from each direction
abbrev pub Due : Type 0
Due = ℕ → ℕ → ℕ → ℕ

abbrev pub nothing-due : Due
nothing-due n q d = 0

-- one from direction d for each pattern of a list at cell n, and then `rest`
abbrev pub due_in : ℕ → ℕ → ℕ → List ℕ → Due → Due
due_in P n d [] rest n' q' d' = rest n' q' d'
due_in P n d (q ∷ qs) rest n' q' d' = same (place P n' q' d') (place P n q d) + due_in P n d qs rest n' q' d'

abbrev pub due_to : ℕ → Option ℕ → ℕ → List ℕ → Due → Due
due_to P None d qs rest = rest
due_to P (Some n) d qs rest = due_in P n d qs rest

-- what the removal u is to take in direction d, and in directions 0 to 3
abbrev pub due_toward : Table → Grid → Removal → ℕ → Due → Due
due_toward t g u d rest = due_to t.count (neighbour g u.cell d) d (list_of t u.pattern d) rest

abbrev pub due_of : Table → Grid → Removal → Due → Due
due_of t g u rest = due_toward t g u 0 (due_toward t g u 1 (due_toward t g u 2 (due_toward t g u 3 rest)))

-- what the patterns of pending removals gave
unfoldable pub owed : Table → Grid → List Removal → Due
owed t g [] n q d = 0
owed t g (u ∷ us) n q d = gives (net_of t g) u.cell u.pattern n q d + owed t g us n q d

-- ---- one direction

module _ (P n d n' q' d' : ℕ) (hd : d < 4) (hq' : q' < P) (hd' : d' < 4) (rest : Due) where
  due-at : n' ≡ n → d' ≡ d → (qs : List ℕ) → AllBelow P qs → due_in P n d qs rest n' q' d' ≡ times q' qs + rest n' q' d'
  unfolding times
  due-at e₁ e₂ [] a = omega arith
  due-at e₁ e₂ (q ∷ qs) a =
      elim (ℕ_discrete q' q) [
        | yes e ↦
            omega (
              arith,
              due-at e₁ e₂ qs a.1,
              same_yes q' q e,
              same_yes (place P n' q' d') (place P n q d) (omega (arith, ap (λ (x : ℕ). x * P) e₁)),
            )
        | no e ↦
            omega (
              arith,
              due-at e₁ e₂ qs a.1,
              same_no q' q e,
              same_no (place P n' q' d') (place P n q d) (λ z. e (place-inj P n' q' d' n q d hq' a.0 hd' hd z).1),
            )
      ]

  due-off : (n' ≡ n → d' ≡ d → ⊥) → (qs : List ℕ) → AllBelow P qs → due_in P n d qs rest n' q' d' ≡ rest n' q' d'
  due-off f [] a = refl
  due-off f (q ∷ qs) a =
      omega (
        arith,
        due-off f qs a.1,
        same_no (place P n' q' d') (place P n q d) (λ z. let k = place-inj P n' q' d' n q d hq' a.0 hd' hd z in f k.0 k.2),
      )

-- another direction owes nothing here
to_off : (P : ℕ) (o : Option ℕ) (d : ℕ) (qs : List ℕ) (rest : Due) (n' q' d' : ℕ) → d < 4 → q' < P → d' < 4 → (d' ≡ d → ⊥) → AllBelow P qs
    → due_to P o d qs rest n' q' d' ≡ rest n' q' d'
to_off P None d qs rest n' q' d' hd hq' hd' f a = refl
to_off P (Some n) d qs rest n' q' d' hd hq' hd' f a = due-off P n d n' q' d' hd hq' hd' rest (λ _ e. f e) qs a

module _ (t : Table) (g : Grid) (A : Accepted t) (u : Removal) (hc : u.cell < cells g) (hp : u.pattern < t.count) (n q : ℕ) (hn : n < cells g) (hq : q < t.count) where
  -- its own direction owes here what the pattern gave
  to_at : (d : ℕ) → d < 4 → (o : Option ℕ) → neighbour g u.cell d ≡ o → (rest : Due)
      → due_to t.count o d (list_of t u.pattern d) rest n q d ≡ gives (net_of t g) u.cell u.pattern n q d + rest n q d
  to_at d hd None e rest =
      omega (
        arith,
        gives-no (net_of t g) u.cell u.pattern n q d
            (λ k. let z : ◌≡◌ {A = ℕ} 0 1 = cc ((neighbour-opposite g u.cell d n hc hd hn).1 k) in omega arith),
      )
  to_at d hd (Some m) e rest =
      elim (ℕ_discrete n m) [
        | yes z ↦
            omega (
              arith,
              due-at t.count m d n q d hd hq hd rest z refl (list_of t u.pattern d) (A.listed.below u.pattern d hp hd),
              gives-yes (net_of t g) u.cell u.pattern n q d ((neighbour-opposite g u.cell d n hc hd hn).0 (rw z e)),
            )
        | no z ↦
            omega (
              arith,
              due-off t.count m d n q d hd hq hd rest (λ k _. z k) (list_of t u.pattern d) (A.listed.below u.pattern d hp hd),
              gives-no (net_of t g) u.cell u.pattern n q d (λ k. z (cc ((neighbour-opposite g u.cell d n hc hd hn).1 k))),
            )
      ]

  -- so direction d owes in direction e what the pattern gave where they are one, and nothing else
  toward : (d e : ℕ) → d < 4 → e < 4 → (rest : Due)
      → due_toward t g u d rest n q e ≡ cond (eqb e d) (gives (net_of t g) u.cell u.pattern n q e) 0 + rest n q e
  toward d e hd he rest =
      elim (ℕ_discrete e d) [
        | yes z ↦ rw (eq-eqb e d z, z) (to_at d hd (neighbour g u.cell d) refl rest)
        | no z ↦
            rw (ne_eqb e d z)
            (omega (arith, to_off t.count (neighbour g u.cell d) d (list_of t u.pattern d) rest n q e hd hq he z (A.listed.below u.pattern d hp hd)))
      ]

  -- in all four directions a removal is to take what its pattern gave
  pub due_of_lem : (rest : Due) (d : ℕ) → d < 4 → due_of t g u rest n q d ≡ gives (net_of t g) u.cell u.pattern n q d + rest n q d
  due_of_lem rest = of_four (λ d. due_of t g u rest n q d ≡ gives (net_of t g) u.cell u.pattern n q d + rest n q d) (omega (arith, all 0 (lit< tt))) (omega (arith, all 1 (lit< tt))) (omega (arith, all 2 (lit< tt))) (omega (arith, all 3 (lit< tt)))
    where
      given : ℕ → ℕ → ℕ
      given e d = cond (eqb e d) (gives (net_of t g) u.cell u.pattern n q e) 0

      all : (e : ℕ) → e < 4 → due_of t g u rest n q e ≡ given e 0 + (given e 1 + (given e 2 + (given e 3 + rest n q e)))
      all e he =
          omega (
            arith,
            toward 0 e (lit< tt) he (due_toward t g u 1 (due_toward t g u 2 (due_toward t g u 3 rest))),
            toward 1 e (lit< tt) he (due_toward t g u 2 (due_toward t g u 3 rest)),
            toward 2 e (lit< tt) he (due_toward t g u 3 rest),
            toward 3 e (lit< tt) he rest,
          )
