-- Laws of consistent domains: they are those whose every pattern has supports, in a table that is accepted; full domains are consistent,
-- and with one pattern per cell no list is violated. Follows docs/RULES.md, "Propagation". Assumes nothing.
use mathlib.Core.List.{List}
use Rattle.std.specs.Prelude.{Option, None, Some}
use mathlib.Core.Logic.{inl, inr, ⊎_elim}
use mathlib.Core.Path.{◌≡◌, refl, ap, subst, ◌∙◌}
use Prim.Native.Nat.{ℕ, zero, suc, ◌*◌, ◌<◌}
use native.Mathlib.Omega.{arith}
use lib.ListN.{length, get_or}
use Rattle.words.specs.Words.{how_many}
use Rattle.directions.specs.Directions.{opposite}
use Rattle.adjacency.specs.Tables.{Table, list_of, InList}
use Rattle.adjacency.specs.Accepted.{Accepted}
use Rattle.grid.specs.Grid.{Grid, cells, neighbour}
use Rattle.consistency.specs.Domains.{possible, filled, Fit, Union}
use Rattle.consistency.specs.Consistent.{Consistent}
use Rattle.loops.proofs.SumLaws.{sum-ext, sum-le, sum-pos}
use Rattle.words.proofs.BitLaws.{bit-lt}
use Rattle.words.proofs.CountLaws.{decided-one}
use Rattle.directions.proofs.DirectionLaws.{opposite-below, opposite-opposite}
use Rattle.grid.proofs.GridLaws.{neighbour-inside}
use Rattle.adjacency.proofs.Times.{times, elem-pos, pos-elem, times-sum, times-agree}
use Rattle.consistency.proofs.DomainLaws.{pattern-below, cell_below, possible-filled, fit-filled}
use Rattle.consistency.proofs.Counting.{supports, supports_by, once}
use Rattle.consistency.proofs.Owed.{net_of}
use Rattle.consistency.proofs.Steps.{Supported}

both_of : (x y : ℕ) → x < 2 → 0 < x * y → (x ≡ 1) × (0 < y)
both_of zero y h k = absurd (omega arith)
both_of (suc zero) y h k = (refl, omega arith)
both_of (suc (suc x)) y h k = absurd (omega arith)

module _ (t : Table) (g : Grid) (A : Accepted t) where
  module _ (D : List ℕ) (F : Fit t.count (cells g) D) where
    pub consistent_supported : Consistent t g D → Supported t g (possible D)
    unfolding supports
    consistent_supported C n q d hn hq hd h = go (neighbour g n (opposite d)) refl
      where
        go : (o : Option ℕ) → neighbour g n (opposite d) ≡ o → 0 < supports_by (net_of t g) o (possible D) n q d
        go None e = A.listed.filled q (opposite d) hq (opposite-below d hd)
        go (Some m) e =
            let (r, i, k) = C n q (opposite d) m (opposite-below d hd) h e in
            let hr = pattern-below F m r k in
            omega (
              arith,
              elem-pos r (list_of t q (opposite d)) i,
              times-agree t A r q d hr hq hd,
              once (possible D m r) (times q (list_of t r d)) k,
              sum-le t.count (λ r. possible D m r * times q (list_of t r d)) r hr,
            )

    pub supported_consistent : Supported t g (possible D) → Consistent t g D
    unfolding supports
    supported_consistent K c p d n hd h e =
        let hp = pattern-below F c p h in
        let ho = opposite-below d hd in
        let k = K c p (opposite d) (cell_below F c p h) hp ho h in
        let e' : neighbour g c (opposite (opposite d)) ≡ Some n = ap (λ (x : ℕ). neighbour g c x) (opposite-opposite d hd) ∙ e in
        let (r, hr, k') = sum-pos t.count (λ r. possible D n r * times p (list_of t r (opposite d))) (rw (e', supports) at k) in
        let (a, b) = both_of (possible D n r) (times p (list_of t r (opposite d))) (bit-lt (get_or D n 0) r) k' in
        let z = times-agree t A r p (opposite d) hr hp ho ∙ ap (λ (x : ℕ). times r (list_of t p x)) (opposite-opposite d hd) in
        (r, pos-elem r (list_of t p d) (omega (arith, z)), a)

  -- with all patterns possible, each has as many supports as its list for the opposite is long
  pub supports_filled : (n q d : ℕ) → n < cells g → q < t.count → d < 4
      → supports (net_of t g) (possible (filled t.count (cells g))) n q d ≡ length (list_of t q (opposite d))
  unfolding supports
  supports_filled n q d hn hq hd = go (neighbour g n (opposite d)) refl
    where
      go : (o : Option ℕ) → neighbour g n (opposite d) ≡ o
          → supports_by (net_of t g) o (possible (filled t.count (cells g))) n q d ≡ length (list_of t q (opposite d))
      go None e = refl
      go (Some m) e =
          sum-ext t.count _ _
          (λ r hr.
          once (possible (filled t.count (cells g)) m r) (times q (list_of t r d))
          (possible-filled t.count (cells g) m r (neighbour-inside g n (opposite d) m hn (opposite-below d hd) e) hr)
          ∙ times-agree t A r q d hr hq hd)
          ∙ times-sum t.count (list_of t q (opposite d)) (A.listed.below q (opposite d) hq (opposite-below d hd))

  -- full domains are consistent, for no list is empty
  pub full-consistent : Consistent t g (filled t.count (cells g))
  full-consistent =
      supported_consistent (filled t.count (cells g)) (fit-filled t.count (cells g))
      (λ n q d hn hq hd _. omega (arith, supports_filled n q d hn hq hd, A.listed.filled q (opposite d) hq (opposite-below d hd)))

-- consistent domains are closed under union
pub consistent-union : (t : Table) (g : Grid) (D E U : List ℕ) → Union D E U → Consistent t g D → Consistent t g E → Consistent t g U
consistent-union t g D E U u a b c p d n hd h e =
    ⊎_elim (λ k. let (q, i, z) = a c p d n hd k e in (q, i, (u n q).1 (inl z))) (λ k. let (q, i, z) = b c p d n hd k e in (q, i, (u n q).1 (inr z)))
    ((u c p).0 h)

-- consistent domains with one pattern per cell violate no list
pub one_each : (t : Table) (g : Grid) (D : List ℕ) → Fit t.count (cells g) D → Consistent t g D
    → ((c : ℕ) → c < cells g → how_many t.count (get_or D c 0) ≡ 1)
    → (c p d n q : ℕ) → d < 4 → neighbour g c d ≡ Some n → possible D c p ≡ 1 → possible D n q ≡ 1 → InList t p d q
one_each t g D F C one c p d n q hd e hp hq =
    let (r, i, hr) = C c p d n hd hp e in
    subst (λ (x : ℕ). InList t p d x)
    (decided-one t.count (get_or D n 0) q r (pattern-below F n q hq) (pattern-below F n r hr) (one n (cell_below F n q hq)) hq hr) i
