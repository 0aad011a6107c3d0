-- The counting argument, over functions: what is possible, the supports, and how many supports are still to be taken.
-- Main property: taking one support that is due keeps the counts exact, and a pattern whose last support is taken is in no consistent subset.
-- Assumes nothing.
use Rattle.std.specs.Prelude.{Option, None, Some}
use mathlib.Core.Path.{◌≡◌, refl, sym, ap, ◌∙◌}
use Prim.Native.Nat.{ℕ, suc, ◌+◌, ◌*◌, ◌/◌, ◌%◌, ◌≤◌, ◌<◌}
use native.Mathlib.Decide.{ℕ_discrete}
use native.Mathlib.Nat.{le_refl, mul-le-mul_right}
use native.Mathlib.Omega.{arith}
use lib.Arith.{digits_div, digits_mod}
use Rattle.loops.specs.Sums.{sum_to}
use Rattle.consistency.specs.Worklist.{place}
use Rattle.loops.proofs.SumLaws.{same, same_yes, same_no, sum-ext, sum_mono, sum-at}

-- what gives support to what: `back n d` is the cell whose neighbour in direction d is n, and `ways r d q` how often q stands in r's list for d
pub record Net : Type 0 where
  pub cells : ℕ
  pub count : ℕ
  pub back : ℕ → ℕ → Option ℕ
  pub ways : ℕ → ℕ → ℕ → ℕ
  pub slack : ℕ → ℕ → ℕ → ℕ

-- how many supports pattern q at cell n has from direction d among what is possible; where no cell gives any, a number that never changes
abbrev pub supports_by : (N : Net) → Option ℕ → (ℕ → ℕ → ℕ) → ℕ → ℕ → ℕ → ℕ
supports_by N None A n q d = N.slack n q d
supports_by N (Some m) A n q d = sum_to N.count (λ r. A m r * N.ways r d q)

unfoldable pub supports : (N : Net) → (ℕ → ℕ → ℕ) → ℕ → ℕ → ℕ → ℕ
supports N A n q d = supports_by N (N.back n d) A n q d

-- how many of them pattern p at cell c gives
abbrev pub gives_by : (N : Net) → Option ℕ → ℕ → ℕ → ℕ → ℕ → ℕ
gives_by N None c p q d = 0
gives_by N (Some m) c p q d = same m c * N.ways p d q

unfoldable pub gives : (N : Net) → ℕ → ℕ → ℕ → ℕ → ℕ → ℕ
gives N c p n q d = gives_by N (N.back n d) c p q d

pub once : (x y : ℕ) → x ≡ 1 → x * y ≡ y
once x y e = rw e (omega arith)

never : (x y : ℕ) → x ≡ 0 → x * y ≡ 0
never x y e = rw e (omega arith)

pub gives-yes : (N : Net) (c p n q d : ℕ) → N.back n d ≡ Some c → gives N c p n q d ≡ N.ways p d q
unfolding gives
gives-yes N c p n q d e = rw (e, gives) (once (same c c) (N.ways p d q) (same_yes c c refl))

gives-no_by : (N : Net) (o : Option ℕ) (c p q d : ℕ) → (o ≡ Some c → ⊥) → gives_by N o c p q d ≡ 0
gives-no_by N None c p q d f = refl
gives-no_by N (Some m) c p q d f = never (same m c) (N.ways p d q) (same_no m c (λ e. f (ap Some e)))

pub gives-no : (N : Net) (c p n q d : ℕ) → (N.back n d ≡ Some c → ⊥) → gives N c p n q d ≡ 0
unfolding gives
gives-no N c p n q d f = gives-no_by N (N.back n d) c p q d f

-- ---- supports grow with what is possible, and fall by what a removed pattern gave

supports_mono_by : (N : Net) (o : Option ℕ) (H A : ℕ → ℕ → ℕ) → ((m r : ℕ) → H m r ≤ A m r) → (n q d : ℕ) → supports_by N o H n q d ≤ supports_by N o A n q d
supports_mono_by N None H A h n q d = le_refl (N.slack n q d)
supports_mono_by N (Some m) H A h n q d = sum_mono N.count _ _ (λ r k. mul-le-mul_right (N.ways r d q) (h m r))

pub supports_mono : (N : Net) (H A : ℕ → ℕ → ℕ) → ((m r : ℕ) → H m r ≤ A m r) → (n q d : ℕ) → supports N H n q d ≤ supports N A n q d
unfolding supports
supports_mono N H A h n q d = supports_mono_by N (N.back n d) H A h n q d

-- B is A without pattern p at cell c
pub record Less (A B : ℕ → ℕ → ℕ) (c p : ℕ) : Type 0 where
  pub was : A c p ≡ 1
  pub gone : B c p ≡ 0
  pub rest : (m r : ℕ) → (m ≡ c → r ≡ p → ⊥) → B m r ≡ A m r

supports_less_by : (N : Net) (o : Option ℕ) (A B : ℕ → ℕ → ℕ) (c p : ℕ) → Less A B c p → p < N.count
    → (n q d : ℕ) → supports_by N o A n q d ≡ supports_by N o B n q d + gives_by N o c p q d
supports_less_by N None A B c p l h n q d = omega arith
supports_less_by N (Some m) A B c p l h n q d =
    elim (ℕ_discrete m c) [
      | yes e ↦
          omega (
            arith,
            sum-at N.count (λ r. A m r * N.ways r d q) (λ r. B m r * N.ways r d q) p h
                (λ r k z. ap (λ (x : ℕ). x * N.ways r d q) (sym (l.rest m r (λ e₁ e₂. z e₂)))),
            once (A m p) (N.ways p d q) (ap (λ (x : ℕ). A x p) e ∙ l.was),
            never (B m p) (N.ways p d q) (ap (λ (x : ℕ). B x p) e ∙ l.gone),
            once (same m c) (N.ways p d q) (same_yes m c e),
          )
      | no e ↦
          omega (
            arith,
            sum-ext N.count (λ r. A m r * N.ways r d q) (λ r. B m r * N.ways r d q)
                (λ r k. ap (λ (x : ℕ). x * N.ways r d q) (sym (l.rest m r (λ e₁ e₂. e e₁)))),
            never (same m c) (N.ways p d q) (same_no m c e),
          )
    ]

pub supports_less : (N : Net) (A B : ℕ → ℕ → ℕ) (c p : ℕ) → Less A B c p → p < N.count
    → (n q d : ℕ) → supports N A n q d ≡ supports N B n q d + gives N c p n q d
unfolding supports gives
supports_less N A B c p l h n q d = supports_less_by N (N.back n d) A B c p l h n q d

-- ---- places among the counts are told apart

slot-inj : (P n q n' q' : ℕ) → q < P → q' < P → n * P + q ≡ n' * P + q' → (n ≡ n') × (q ≡ q')
slot-inj P n q n' q' h h' e =
    (sym (digits_div n h) ∙ ap (λ (x : ℕ). x / P) e ∙ digits_div n' h', sym (digits_mod n h) ∙ ap (λ (x : ℕ). x % P) e ∙ digits_mod n' h')

pub place-inj : (P n q d n' q' d' : ℕ) → q < P → q' < P → d < 4 → d' < 4 → place P n q d ≡ place P n' q' d' → (n ≡ n') × (q ≡ q') × (d ≡ d')
place-inj P n q d n' q' d' h h' k k' e = let (e₁, e₂) = slot-inj P n q n' q' h h' (omega arith) in (e₁, e₂, omega arith)

pub place-ne : (P n q d n' q' d' : ℕ) → q < P → q' < P → d < 4 → d' < 4 → (n ≡ n' → q ≡ q' → ⊥) → place P n q d ≡ place P n' q' d' → ⊥
place-ne P n q d n' q' d' h h' k k' z e = let (e₁, e₂, _) = place-inj P n q d n' q' d' h h' k k' e in z e₁ e₂

-- ---- the invariant

-- the counts of what is possible are its supports and those still due, and none is zero
pub record Counted (N : Net) (A : ℕ → ℕ → ℕ) (count : ℕ → ℕ) (due : ℕ → ℕ → ℕ → ℕ) : Type 0 where
  pub exact : (n q d : ℕ) → n < N.cells → q < N.count → d < 4 → A n q ≡ 1 → count (place N.count n q d) ≡ supports N A n q d + due n q d
  pub live : (n q d : ℕ) → n < N.cells → q < N.count → d < 4 → A n q ≡ 1 → 0 < count (place N.count n q d)

-- only what is due within the net counts
pub counted_by : (N : Net) (A : ℕ → ℕ → ℕ) (count : ℕ → ℕ) (due due' : ℕ → ℕ → ℕ → ℕ)
    → ((n q d : ℕ) → n < N.cells → q < N.count → d < 4 → due n q d ≡ due' n q d) → Counted N A count due → Counted N A count due'
counted_by N A count due due' e I =
    record { exact = λ n q d hn hq hd a. omega (arith, I.exact n q d hn hq hd a, e n q d hn hq hd); live = I.live }

-- `due` has one more than `due'` at place k, and else the same
abbrev pub OneMore : ℕ → (due due' : ℕ → ℕ → ℕ → ℕ) → ℕ → Type 0
OneMore P due due' k = (n q d : ℕ) → due n q d ≡ same (place P n q d) k + due' n q d

module _ (N : Net) (A : ℕ → ℕ → ℕ) (count : ℕ → ℕ) (due due' : ℕ → ℕ → ℕ → ℕ) (I : Counted N A count due) where
  -- a support is taken from what is not possible: nothing to do
  pub skip : (k : ℕ) → OneMore N.count due due' k → count k ≡ 0 → Counted N A count due'
  skip k m z =
      record {
        exact = λ n q d hn hq hd a.
            omega (arith, I.exact n q d hn hq hd a, m n q d, same_no (place N.count n q d) k (λ e. omega (arith, I.live n q d hn hq hd a, ap count e)));
        live = I.live;
      }

  -- a support is taken, and one is left
  pub spend : (count' : ℕ → ℕ) (k c : ℕ) → OneMore N.count due due' k → count k ≡ suc (suc c) → count' k ≡ suc c
      → ((j : ℕ) → (j ≡ k → ⊥) → count' j ≡ count j) → Counted N A count' due'
  spend count' k c m e e' r =
      record {
        exact = λ n q d hn hq hd a.
            elim (ℕ_discrete (place N.count n q d) k) [
              | yes z ↦ omega (arith, I.exact n q d hn hq hd a, m n q d, same_yes (place N.count n q d) k z, ap count z, ap count' z)
              | no z ↦ omega (arith, I.exact n q d hn hq hd a, m n q d, same_no (place N.count n q d) k z, r (place N.count n q d) z)
            ];
        live = λ n q d hn hq hd a.
            elim (ℕ_discrete (place N.count n q d) k) [
              | yes z ↦ omega (arith, ap count' z)
              | no z ↦ omega (arith, I.live n q d hn hq hd a, r (place N.count n q d) z)
            ];
      }

  -- a pattern goes, and all that it gave is due
  pub kill : (B : ℕ → ℕ → ℕ) (count' : ℕ → ℕ) (c p : ℕ) → p < N.count → Less A B c p
      → ((j : ℕ) → ((d : ℕ) → d < 4 → j ≡ place N.count c p d → ⊥) → count' j ≡ count j)
      → ((n q d : ℕ) → q < N.count → d < 4 → (n ≡ c → q ≡ p → ⊥) → due' n q d ≡ gives N c p n q d + due n q d)
      → Counted N B count' due'
  kill B count' c p hp l r m =
      record {
        exact = λ n q d hn hq hd a.
            omega (
              arith,
              kept n q d hq hd (away n q a),
              I.exact n q d hn hq hd (stays n q a),
              supports_less N A B c p l hp n q d,
              m n q d hq hd (away n q a),
            );
        live = λ n q d hn hq hd a. omega (arith, kept n q d hq hd (away n q a), I.live n q d hn hq hd (stays n q a));
      }
    where
      away : (n q : ℕ) → B n q ≡ 1 → n ≡ c → q ≡ p → ⊥
      away n q a e₁ e₂ = omega (arith, ap (λ (x : ℕ). B x q) e₁, ap (λ (x : ℕ). B c x) e₂, l.gone)

      stays : (n q : ℕ) → B n q ≡ 1 → A n q ≡ 1
      stays n q a = sym (l.rest n q (away n q a)) ∙ a

      kept : (n q d : ℕ) → q < N.count → d < 4 → (n ≡ c → q ≡ p → ⊥) → count' (place N.count n q d) ≡ count (place N.count n q d)
      kept n q d hq hd f = r (place N.count n q d) (λ d' k e. place-ne N.count n q d c p d' hq hp hd k f e)

  -- a pattern whose last support is due has none among what is possible, so no H below that gives it supports
  pub doomed : (H : ℕ → ℕ → ℕ) (n q d : ℕ) → n < N.cells → q < N.count → d < 4 → OneMore N.count due due' (place N.count n q d)
      → count (place N.count n q d) ≡ 1 → A n q ≡ 1 → ((m r : ℕ) → H m r ≤ A m r) → 0 < supports N H n q d → ⊥
  doomed H n q d hn hq hd m e a le s =
      omega (
        arith,
        I.exact n q d hn hq hd a,
        m n q d,
        same_yes (place N.count n q d) (place N.count n q d) refl,
        supports_mono N H A le n q d,
      )
