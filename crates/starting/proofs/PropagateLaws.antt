-- What a propagation of starting domains means: it leaves their greatest consistent subset, a contradiction is an empty cell there, less never leaves more,
-- a refusal changes nothing, and no second outcome fits. Follows docs/RULES.md, "Propagation" and "Refusals". Assumes nothing.
use mathlib.Core.Bool.{Bool, true, false}
use mathlib.Core.List.{List}
use mathlib.Core.Path.{◌≡◌, refl, sym, ap, subst, ◌∙◌}
use Prim.Native.Nat.{ℕ, zero, suc, ◌<◌}
use lib.ListN.{length, get_or, replicate}
use Rattle.words.specs.Words.{how_many}
use Rattle.refusals.specs.Refusals.{Asked, refused, answer}
use Rattle.adjacency.specs.Tables.{Table, InList}
use Rattle.adjacency.specs.Accepted.{Accepted}
use Rattle.grid.specs.Grid.{Grid, cells, neighbour}
use Rattle.consistency.specs.Domains.{possible, Fit, Sub, emptied}
use Rattle.consistency.specs.Consistent.{Greatest}
use Rattle.consistency.specs.Forget.{nothing}
use Rattle.std.specs.Prelude.{Result, Ok, Err, Some}
use Rattle.refusals.specs.declared.Refusal.{Refusal}
use Rattle.starting.specs.declared.Propagated.{Propagated}
use Rattle.starting.specs.declared.Propagated.TheVariants.{Consistent, Contradiction}
use Rattle.starting.specs.Propagate.{reduced_from, propagate_refusal, propagated_told, Outcome, outcome, outcome_at, propagate_of}
use Rattle.refusals.proofs.RefusalLaws.{number-injective}
use Rattle.consistency.proofs.DomainLaws.{settled-empty, settled-whole}
use Rattle.consistency.proofs.ConsistentLaws.{one_each}
use Rattle.consistency.proofs.Settled.{Settled}
use Rattle.consistency.proofs.SettledLaws.{settled_contradiction, settled-written, settled-less}
use Rattle.consistency.proofs.Given.{given-settled, greatest_exists}
use Rattle.starting.proofs.CheckLaws.{not-refused}
use Rattle.starting.proofs.OutcomeLaws.{outcome-accepted}

-- what is left of domains whose greatest consistent subset is G: G itself, or all zero and a contradiction where G has an empty cell
pub record Left (g : Grid) (G : List ℕ) (o : Outcome) : Type 0 where
  pub told : o.told ≡ answer (emptied G)
  pub whole : emptied G ≡ false → o.domains ≡ G
  pub empty : emptied G ≡ true → o.domains ≡ replicate (cells g) 0

module _ (t : Table) (g : Grid) where
  -- starting domains with work memory that are not refused
  abbrev pub Taken : List ℕ → List ℕ → List ℕ → Type 0
  Taken D counts pending = propagate_refusal t g D (length counts) (length pending) ≡ 0

  module _ (D counts pending : List ℕ) (taken : Taken D counts pending) where
    accepted : Accepted t
    accepted = (not-refused t g D counts pending taken).0.accepted

    fit : Fit t.count (cells g) D
    fit = let (ground, given) = not-refused t g D counts pending taken in subst (λ (n : ℕ). Fit t.count n D) ground.all given.fit

    settled : Settled t g D (reduced_from t g D)
    unfolding reduced_from
    settled = given-settled t g accepted nothing tt D fit

    -- there is a greatest consistent subset
    pub propagate_exists : (G : List ℕ) × Greatest t g D G
    propagate_exists = greatest_exists t g accepted D fit

    -- it is what is left
    pub propagate-greatest : (G : List ℕ) → Greatest t g D G → Left g G (propagate_of t g D counts pending)
    unfolding outcome_at
    propagate-greatest G a =
        let written = settled-written t g D (reduced_from t g D) settled G a in
        rw (outcome-accepted t g D counts pending taken)
        (record {
          told = ap answer (settled_contradiction t g D (reduced_from t g D) settled G a);
          whole = λ e. written ∙ settled-whole G e;
          empty = λ e. written ∙ settled-empty G e ∙ ap (λ (n : ℕ). replicate n 0) a.fit.sized;
        })

    -- so a consistent answer leaves the greatest consistent subset
    pub propagate-consistent : (propagate_of t g D counts pending).told ≡ answer false → Greatest t g D (propagate_of t g D counts pending).domains
    propagate-consistent e =
        let (G, a) = propagate_exists in
        let left = propagate-greatest G a in
        let whole : emptied G ≡ false = cc left.told in
        subst (λ (E : List ℕ). Greatest t g D E) (sym (left.whole whole)) a

    -- and where each cell is left with one pattern, no list is violated
    pub propagate_solved : (propagate_of t g D counts pending).told ≡ answer false
        → ((c : ℕ) → c < cells g → how_many t.count (get_or (propagate_of t g D counts pending).domains c 0) ≡ 1)
        → (c p d n q : ℕ) → d < 4 → neighbour g c d ≡ Some n
        → possible (propagate_of t g D counts pending).domains c p ≡ 1 → possible (propagate_of t g D counts pending).domains n q ≡ 1 → InList t p d q
    propagate_solved e =
        let left = propagate-consistent e in
        one_each t g (propagate_of t g D counts pending).domains left.fit left.consistent

    -- work memory ends as zero
    pub propagate-cleared : ((propagate_of t g D counts pending).counts ≡ replicate (length counts) 0) × ((propagate_of t g D counts pending).pending ≡ replicate (length pending) 0)
    unfolding outcome_at
    propagate-cleared = rw (outcome-accepted t g D counts pending taken) (refl, refl)

  -- smaller starting domains never leave a cell a new pattern, and never lift a contradiction, which counts as every cell empty
  pub propagate-shrinks : (D E counts counts' pending pending' : List ℕ) → Taken D counts pending → Taken E counts' pending' → Sub D E
      → Sub (propagate_of t g D counts pending).domains (propagate_of t g E counts' pending').domains
      × ((propagate_of t g E counts' pending').told ≡ answer true → (propagate_of t g D counts pending).told ≡ answer true)
  unfolding outcome_at
  propagate-shrinks D E counts counts' pending pending' a b h =
      let (less, lifts) =
      settled-less t g D E (reduced_from t g D) (reduced_from t g E) (settled D counts pending a) (settled E counts' pending' b) h
      in
      rw (outcome-accepted t g D counts pending a, outcome-accepted t g E counts' pending' b) (less, λ e. ap answer (lifts (cc)))

  -- ---- refused

  -- a refusal leaves all lent memory as it was
  pub propagate-refused_same : (D counts pending : List ℕ) (n : ℕ) → (propagate_of t g D counts pending).told ≡ refused n
      → propagate_of t g D counts pending ≡ outcome (refused n) D counts pending
  unfolding propagate_of outcome_at
  propagate-refused_same D counts pending n = go (propagate_refusal t g D (length counts) (length pending))
    where
      go : (m : ℕ) → (outcome_at m t g D counts pending).told ≡ refused n → outcome_at m t g D counts pending ≡ outcome (refused n) D counts pending
      go zero e = cc
      go (suc m) e = ap (λ (told : Asked Bool). outcome told D counts pending) e

-- ---- no second outcome fits

pub propagated_told-injective : (r s : Result Propagated Refusal) → propagated_told r ≡ propagated_told s → r ≡ s
unfolding propagated_told
propagated_told-injective (Ok Consistent) (Ok Consistent) e = refl
propagated_told-injective (Ok Consistent) (Ok Contradiction) e = cc
propagated_told-injective (Ok Consistent) (Err s) e = cc
propagated_told-injective (Ok Contradiction) (Ok Consistent) e = cc
propagated_told-injective (Ok Contradiction) (Ok Contradiction) e = refl
propagated_told-injective (Ok Contradiction) (Err s) e = cc
propagated_told-injective (Err r) (Ok Consistent) e = cc
propagated_told-injective (Err r) (Ok Contradiction) e = cc
propagated_told-injective (Err r) (Err s) e = ap Err (number-injective r s (cc))

-- two answers with what they leave in the lent slices, both as the contract of `propagate` says, are the same
pub propagate-unique : (t : Table) (g : Grid) (D counts pending : List ℕ) (r₁ r₂ : Result Propagated Refusal) (D₁ D₂ counts₁ counts₂ pending₁ pending₂ : List ℕ)
    → outcome (propagated_told r₁) D₁ counts₁ pending₁ ≡ propagate_of t g D counts pending → outcome (propagated_told r₂) D₂ counts₂ pending₂ ≡ propagate_of t g D counts pending
    → (r₁ ≡ r₂) × (D₁ ≡ D₂) × (counts₁ ≡ counts₂) × (pending₁ ≡ pending₂)
propagate-unique t g D counts pending r₁ r₂ D₁ D₂ counts₁ counts₂ pending₁ pending₂ a b =
    let e = a ∙ sym b in (
      propagated_told-injective r₁ r₂ (ap (λ (o : Outcome). o.told) e),
      ap (λ (o : Outcome). o.domains) e,
      ap (λ (o : Outcome). o.counts) e,
      ap (λ (o : Outcome). o.pending) e,
    )
