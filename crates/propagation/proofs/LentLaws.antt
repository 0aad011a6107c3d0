-- Laws of the lent slices of a propagation: what a pile stands for, and that a safe state leaves them as they must be.
-- Assumes nothing.
use mathlib.Core.Bool.{Bool, ◌||◌}
use mathlib.Core.List.{List, ◌∷◌}
use mathlib.Core.Path.{◌≡◌, refl, sym, ap, subst, ◌∙◌}
use Prim.Native.Nat.{ℕ, zero, suc, ◌+◌, ◌-◌, ◌*◌, ◌≤◌, ◌<◌}
use native.Mathlib.Nat.{le_refl, mul-le-mul}
use native.Mathlib.Numerals.{add-one}
use native.Mathlib.Omega.{arith}
use lib.Arith.{digits_div, digits_mod, digits_lt}
use lib.Dec.{eqb}
use lib.Ieee.{Float}
use lib.ListN.{length, get_or, set}
use lib.Seq.{get_or-set_same, get_or-set_other}
use Rattle.words.specs.Words.{without}
use Rattle.adjacency.specs.Weights.{weight_of}
use Rattle.consistency.specs.Domains.{possible, removed}
use Rattle.consistency.specs.Worklist.{Removal, removal, State, state, place, four_cleared, remove}
use Rattle.consistency.specs.Safe.{total, Inside, Safe}
use Rattle.propagation.specs.declared.inner.propagator.Pile.{Pile}
use Rattle.notes.specs.Beside.{Beside, beside, lessened_by, lessened}
use Rattle.propagation.specs.Lent.{pending_of, state_of, top_of, below_top, Lent}
use Rattle.notes.specs.Sizes.{Alongside}
use Rattle.consistency.proofs.Keep.{removed-less, total-less}

-- ---- the pile

pub pending-length : (P : ℕ) (l : List ℕ) (n : ℕ) → length (pending_of P l n) ≡ n
unfolding pending_of
pending-length P l zero = refl
pending-length P l (suc n) = ap suc (pending-length P l n)

-- what lies above a pile's height is not read
pending-set : (P : ℕ) (l : List ℕ) (i v n : ℕ) → n ≤ i → pending_of P (set l i v) n ≡ pending_of P l n
unfolding pending_of
pending-set P l i v zero h = refl
pending-set P l i v (suc n) h = rw (get_or-set_other l i n v 0 (omega arith), pending-set P l i v n (omega arith))

-- a removal that is put on the pile is read back
pub pending-push : (P : ℕ) (l : List ℕ) (n c p : ℕ) → p < P → n < length l → pending_of P (set l n (c * P + p)) (n + 1) ≡ removal c p ∷ pending_of P l n
unfolding pending_of
pending-push P l n c p hp h =
    rw (add-one, get_or-set_same l n (c * P + p) 0 h, digits_div c hp, digits_mod c hp, pending-set P l n (c * P + p) n (le_refl n))

-- the removal on top is read first
pub pending-top : (P : ℕ) (l : List ℕ) (pile : Pile) → 0 < pile.top → pending_of P l pile.top ≡ top_of P l pile ∷ pending_of P l (pile.top - 1)
unfolding pending_of
pending-top P l pile h = ap (pending_of P l) one_more
  where
    one_more : pile.top ≡ suc (pile.top - 1)
    one_more = omega arith

-- ---- what is safe does not depend on what is kept beside

pub safe-beside : {P n M : ℕ} {X Y : Type 0} (s : State X) (y : Y) → Safe P n M s → Safe P n M (state s.counts s.domains s.pending s.empty y)
safe-beside s y S = record { sized = S.sized; fit = S.fit; inside = S.inside; room = S.room; dead = S.dead; told = S.told }

module _ {P n : ℕ} {D C Q : List ℕ} {pile : Pile} (L : Lent P n D C Q pile) where
  pub lent-safe : {X : Type 0} (x : X) → Safe P n (n * P) (state_of P D C Q pile x)
  lent-safe x = safe-beside _ x L.safe

  -- a step that is safe and keeps the pile's room leaves the slices as they must be
  pub lent-after : {D' C' Q' : List ℕ} {r : Pile} {X : Type 0} {x : X} → Safe P n (n * P) (state_of P D' C' Q' r x) → length Q' ≡ length Q → Lent P n D' C' Q' r
  lent-after S e = record { some = L.some; patterns = L.patterns; cells = L.cells; safe = safe-beside _ tt S; tall = e ∙ L.tall }

  pub pile_within : pile.top ≤ length Q
  pile_within = omega (arith, L.safe.room, L.tall, pending-length P Q pile.top)

  pub pile_small : pile.top ≤ 65536
  pile_small = omega (arith, pile_within, L.tall, mul-le-mul L.cells L.patterns)

  -- ---- the removal on top, and the pile without it

  module _ (h : 0 < pile.top) where
    top-inside : ((top_of P Q pile).cell < n) × ((top_of P Q pile).pattern < P) × Inside P n (pending_of P Q (pile.top - 1))
    top-inside = subst (λ (l : List Removal). Inside P n l) (pending-top P Q pile h) L.safe.inside

    pub top-cell : (top_of P Q pile).cell < n
    top-cell = top-inside.0

    pub top-pattern : (top_of P Q pile).pattern < P
    top-pattern = top-inside.1

    pub below_top-safe : {X : Type 0} (x : X) (M : ℕ) → pile.top - 1 + total P n D ≤ M → Safe P n M (state_of P D C Q (below_top pile) x)
    below_top-safe x M k =
        record {
          sized = L.safe.sized;
          fit = L.safe.fit;
          inside = top-inside.2;
          room = omega (arith, pending-length P Q (pile.top - 1));
          dead = L.safe.dead;
          told = L.safe.told;
        }

    pub lent-below_top : Lent P n D C Q (below_top pile)
    lent-below_top = lent-after (below_top-safe (tt {0}) (n * P) (omega (arith, L.safe.room, pending-length P Q pile.top))) refl

  -- ---- where a cell's pattern stands

  module _ {c p : ℕ} (hc : c < n) (hp : p < P) where
    pub slot_small : c * P + p < 65536
    slot_small = omega (arith, digits_lt {q = c} {m = 1024} {r = p} {c = P} (omega (arith, L.cells)) hp, L.patterns)

    pub place-below : (d : ℕ) → d < 4 → place P c p d < length C
    place-below d hd = omega (arith, digits_lt (digits_lt {m = n} hc hp) hd, L.safe.sized)

    -- there is room for the removal of a pattern that is possible
    pub pile_low : possible D c p ≡ 1 → pile.top < length Q
    pile_low h = omega (arith, L.safe.room, L.tall, pending-length P Q pile.top, total-less P n D (removed D c p) c p hc hp (removed-less D c p h))

pub alongside-after : {P n : ℕ} {ws noise marks marks' : List ℕ} {floats floats' : List Float} → Alongside P n ws noise floats marks → length floats' ≡ length floats
    → length marks' ≡ length marks → Alongside P n ws noise floats' marks'
alongside-after R e k =
    record {
      weighed = R.weighed;
      marked = rw k R.marked;
      roomy = λ p h. let r = R.roomy p h in record { heard = r.heard; valued = e ∙ r.valued; marked = rw k r.marked };
    }

-- ---- a pattern goes

module _ (ws D C Q : List ℕ) (pile : Pile) (floats : List Float) (c : ℕ) where
  -- what the code leaves of the slices is the state without the pattern
  pub remove-is : {P p word slot : ℕ} {C' : List ℕ} {floats' : List Float} → p < P → pile.top < length Q
      → word ≡ without (get_or D c 0) p → C' ≡ four_cleared C ((c * P + p) * 4) → slot ≡ c * P + p
      → ((marks : List ℕ) → beside floats' marks ≡ lessened_by (weight_of ws p) c (beside floats marks)) → (marks : List ℕ)
      → state_of P (set D c word) C' (set Q pile.top slot) (record { top = pile.top + 1; empty = pile.empty || eqb word 0 }) (beside floats' marks)
      ≡ remove P (lessened ws) (removal c p) (state_of P D C Q pile (beside floats marks))
  unfolding remove lessened
  remove-is {P} {p} hp low w e k x marks =
      rw (w, e, k)
      (λ i.
      record {
        counts = ap (four_cleared C) zero_more i;
        domains = removed D c p;
        pending = pending-push P Q pile.top c p hp low i;
        empty = pile.empty || eqb (without (get_or D c 0) p) 0;
        beside = x marks i;
      })
    where
      zero_more : (c * P + p) * 4 ≡ place P c p 0
      zero_more = omega arith

-- ---- on the way through a function that lends its slices on

-- the lent slices as one value
pub record Memory : Type 0 where
  pub domains : List ℕ
  pub counts : List ℕ
  pub pending : List ℕ
  pub floats : List Float
  pub marks : List ℕ

abbrev pub memory : List ℕ → List ℕ → List ℕ → List Float → List ℕ → Memory
memory domains counts pending floats marks = record { domains = domains; counts = counts; pending = pending; floats = floats; marks = marks }

-- a pile by its two fields, as the loops carry it
abbrev pub piled : ℕ → Bool → Pile
piled top empty = record { top = top; empty = empty }

abbrev pub state_in : ℕ → Memory → Pile → State Beside
state_in P m pile = state_of P m.domains m.counts m.pending pile (beside m.floats m.marks)

-- the slices are as they must be, and as long as they were
pub record Going (P n : ℕ) (ws noise : List ℕ) (m₀ m : Memory) (pile : Pile) : Type 0 where
  pub lent : Lent P n m.domains m.counts m.pending pile
  pub alongside : Alongside P n ws noise m.floats m.marks
  pub domains : length m.domains ≡ length m₀.domains
  pub counts : length m.counts ≡ length m₀.counts
  pub pending : length m.pending ≡ length m₀.pending
  pub floats : length m.floats ≡ length m₀.floats
  pub marks : length m.marks ≡ length m₀.marks

-- each slice is as long as before, as a call says of the five that it was lent, with what it says of the rest
abbrev pub Same : Memory → Memory → Type 0 → Type 0
Same m m' R =
    (length m'.domains ≡ length m.domains) × ((length m'.counts ≡ length m.counts) × ((length m'.pending ≡ length m.pending)
    × ((length m'.floats ≡ length m.floats) × ((length m'.marks ≡ length m.marks) × R))))

module _ {P n : ℕ} {ws noise : List ℕ} where
  pub going_start : {m : Memory} {pile : Pile} → Lent P n m.domains m.counts m.pending pile → Alongside P n ws noise m.floats m.marks
      → Going P n ws noise m m pile
  going_start L R = record { lent = L; alongside = R; domains = refl; counts = refl; pending = refl; floats = refl; marks = refl }

  -- a step that is safe, and whose slices are as long as before
  pub going_on : {m₀ m m' : Memory} {pile r : Pile} {s : State Beside} {R : Type 0} → Going P n ws noise m₀ m pile → state_in P m' r ≡ s → Safe P n (n * P) s
      → Same m m' R → Going P n ws noise m₀ m' r
  going_on G e S k =
      let (domains, (counts, (pending, (floats, (marks, _))))) = k in
      record {
        lent = lent-after G.lent (subst (λ (z : State Beside). Safe P n (n * P) z) (sym e) S) pending;
        alongside = alongside-after G.alongside floats marks;
        domains = domains ∙ G.domains;
        counts = counts ∙ G.counts;
        pending = pending ∙ G.pending;
        floats = floats ∙ G.floats;
        marks = marks ∙ G.marks;
      }
