-- What each end of a run says of the state where it ends. Follows docs/RULES.md, "Run". Assumes nothing.
use mathlib.Core.Bool.{Bool, true, false, true≢false}
use mathlib.Core.List.{List}
use mathlib.Core.Logic.{◌↔◌}
use Rattle.std.specs.Prelude.{Some}
use mathlib.Core.Path.{◌≡◌, refl, sym, ap, ◌∙◌, subst}
use Prim.Native.Nat.{ℕ, zero, suc, ◌^◌, ◌≤◌, ◌<◌}
use native.Mathlib.Decide.{ℕ_discrete}
use native.Mathlib.Omega.{arith}
use lib.Dec.{eqb}
use lib.ListN.{length, get_or, replicate, length-replicate, get_or-replicate}
use lib.Pow.{pow_mono}
use borrow.Author.Tests.{eqb-true, eqb-false}
use Rattle.words.specs.Words.{how_many}
use Rattle.adjacency.specs.Tables.{InList}
use Rattle.grid.specs.Grid.{cells, neighbour}
use Rattle.consistency.specs.Domains.{possible, Fit, emptied, settled_as}
use Rattle.consistency.specs.Consistent.{Greatest}
use Rattle.forbids.specs.declared.Forbid.{Forbid}
use Rattle.choice.specs.Observer.{counts_at}
use Rattle.course.specs.Run.{Given, notes_of, sighted, Ended, decided}
use Rattle.course.specs.Course.{Lawful, full_less, removals, Final}
use Rattle.loops.proofs.TestLaws.{T_true, true-T, every-at, every-fails}
use Rattle.words.proofs.CountLaws.{many-width, many-zero, many_none}
use Rattle.consistency.proofs.DomainLaws.{emptied-at, at-emptied, settled-empty, settled-whole, fit-settled}
use Rattle.consistency.proofs.ConsistentLaws.{one_each}
use Rattle.consistency.proofs.SettledLaws.{settled-greatest, settled_contradiction, settled-written}
use Rattle.course.proofs.TurnLaws.{Says, Over, counts-open, sight-counts, sight_none, turn-over}
use Rattle.course.proofs.StateLaws.{Stands, reached-stands}
use Rattle.course.proofs.CourseLaws.{reached-counted}

-- ---- one pattern in each cell

decided-each : (D : List ℕ) → decided D ≡ true → (c : ℕ) → c < length D → how_many 64 (get_or D c 0) ≡ 1
unfolding decided
decided-each D e c h = eqb-true _ _ (true-T _ (every-at (λ w. eqb (how_many 64 w) 1) D (T_true e) c h))

undecided_some : (D : List ℕ) → decided D ≡ false → (c : ℕ) × (c < length D) × (how_many 64 (get_or D c 0) ≡ 1 → ⊥)
unfolding decided
undecided_some D e = let (c, h, k) = every-fails (λ w. eqb (how_many 64 w) 1) D e in (c, h, eqb-false _ _ k)

-- how many patterns a word of P bits has, P being 64 at most
width-free : (P w : ℕ) → P ≤ 64 → w < 2 ^ P → how_many P w ≡ how_many 64 w
width-free P w h l = many-width P 64 w l (omega (arith, pow_mono {i = P} {j = 64} h))

-- a cell that is not empty and has not one pattern has more
several : (P : ℕ) {n : ℕ} (D : List ℕ) (c : ℕ) → Fit P n D → emptied D ≡ false → c < length D → (how_many P (get_or D c 0) ≡ 1 → ⊥) → 2 ≤ how_many P (get_or D c 0)
several P D c F e h k =
    elim (ℕ_discrete (how_many P (get_or D c 0)) 0) [
      | yes z ↦ absurd (true≢false (sym (at-emptied D c h (many-zero P (get_or D c 0) (F.words c) z)) ∙ e))
      | no z ↦ omega arith
    ]

-- what is written has an empty cell exactly where there was one
emptied-settled : (D : List ℕ) → emptied (settled_as D) ≡ emptied D
emptied-settled D = go (emptied D) refl
  where
    go : (b : Bool) → emptied D ≡ b → emptied (settled_as D) ≡ emptied D
    go false h = ap emptied (settled-whole D h)
    go true h =
        let (c, l, _) = emptied-at D h in
        ap emptied (settled-empty D h) ∙ at-emptied (replicate (length D) 0) c (omega (arith, length-replicate {A = ℕ} (length D) 0)) (get_or-replicate (length D) c 0 0 l) ∙ sym h

module _ (i : Given) (fs : List Forbid) (L : Lawful i fs) (words : List ℕ) {e : Ended} (F : Final i fs words e) where
  -- the last state is what propagation leaves of full domains less all that was asked to go
  pub last-stands : Stands i (removals i fs words F.reached) F.state
  last-stands = reached-stands i fs L F.reached

  ending : Over i words e.used F.state e
  ending = turn-over i words e.used F.state F.over

  -- what the end's number says, where it is known
  said : {n : ℕ} → e.end ≡ n → Says i words e.used F.state n
  said z = subst (Says i words e.used F.state) z ending.says

  -- ---- every end

  -- there are four
  by_end : {A : Type 0} → (e.end ≡ 0 → A) → (e.end ≡ 1 → A) → (e.end ≡ 2 → A) → (e.end ≡ 3 → A) → A
  by_end {A} decided undecided paused contradiction = go e.end refl ending.says
    where
      go : (n : ℕ) → e.end ≡ n → Says i words e.used F.state n → A
      go zero z h = decided z
      go (suc zero) z h = undecided z
      go (suc (suc zero)) z h = paused z
      go (suc (suc (suc zero))) z h = contradiction z
      go (suc (suc (suc (suc n)))) z h = absurd h

  pub end-most : e.end ≤ 3
  end-most = by_end (λ z. omega arith) (λ z. omega arith) (λ z. omega arith) (λ z. omega arith)

  -- a cell of the last state is empty exactly where the end is Contradiction
  pub end_empty : (e.end ≡ 3) ↔ (F.state.empty ≡ true)
  end_empty = (said, λ h. by_end (λ z. whole (said z).0 h) (λ z. whole (said z).0 h) (λ z. whole (said z).0 h) (λ z. z))
    where
      whole : F.state.empty ≡ false → F.state.empty ≡ true → e.end ≡ 3
      whole k h = absurd (true≢false (sym h ∙ k))

  told : F.state.empty ≡ emptied F.state.domains
  told = last-stands.settled.safe.told

  -- what is written is the last state, or zeros
  pub end-written : e.domains ≡ settled_as F.state.domains
  unfolding settled_as
  end-written = rw (← told) ending.written

  -- a cell is empty there exactly where the end is Contradiction
  pub end_contradiction : (e.end ≡ 3) ↔ (emptied e.domains ≡ true)
  end_contradiction =
      let same : emptied e.domains ≡ F.state.empty = ap emptied end-written ∙ emptied-settled F.state.domains ∙ sym told in
      rw same end_empty

  -- whatever the end, it is what is written of the greatest consistent subset of full domains less all that was asked to go
  pub end-settled : (G : List ℕ) → Greatest i.table i.grid (full_less i (removals i fs words F.reached)) G
      → (e.domains ≡ settled_as G) × ((e.end ≡ 3) ↔ (emptied G ≡ true))
  end-settled G a = (
    end-written ∙ settled-written i.table i.grid _ F.state last-stands.settled G a,
    rw (← settled_contradiction i.table i.grid _ F.state last-stands.settled G a) end_empty,
  )

  -- it has a word of P bits for each cell
  pub end-fit : Fit i.table.count (cells i.grid) e.domains
  end-fit = rw end-written (fit-settled last-stands.settled.safe.fit)

  -- how many patterns a cell has, counted over P or over 64
  many-end : (c : ℕ) → how_many i.table.count (get_or e.domains c 0) ≡ how_many 64 (get_or e.domains c 0)
  many-end c = width-free i.table.count (get_or e.domains c 0) L.accepted.few (end-fit.words c)

  -- ---- every end but Contradiction

  module _ (whole : e.end ≡ 3 → ⊥) where
    pub end_whole : F.state.empty ≡ false
    end_whole = go F.state.empty refl
      where
        go : (b : Bool) → F.state.empty ≡ b → F.state.empty ≡ false
        go true h = absurd (whole (end_empty.1 h))
        go false h = h

    -- the domains are those of the last state
    pub end-domains : F.state.domains ≡ e.domains
    end-domains = sym (end-written ∙ settled-whole F.state.domains (sym told ∙ end_whole))

    -- they are the greatest consistent subset of full domains less all that was asked to go
    pub end-greatest : Greatest i.table i.grid (full_less i (removals i fs words F.reached)) e.domains
    end-greatest =
        subst (λ (D : List ℕ). Greatest i.table i.grid (full_less i (removals i fs words F.reached)) D) end-domains
        (settled-greatest i.table i.grid _ F.state last-stands.settled end_whole)

  -- ---- Decided

  -- every cell has one pattern, and no list is violated
  pub decided-means : e.end ≡ 0 → ((c : ℕ) → c < cells i.grid → how_many i.table.count (get_or e.domains c 0) ≡ 1)
      × ((c p d n q : ℕ) → d < 4 → neighbour i.grid c d ≡ Some n → possible e.domains c p ≡ 1 → possible e.domains n q ≡ 1 → InList i.table p d q)
  decided-means z = (one, one_each i.table i.grid e.domains end-fit (end-greatest (λ y. omega arith)).consistent one)
    where
      one : (c : ℕ) → c < cells i.grid → how_many i.table.count (get_or e.domains c 0) ≡ 1
      one c h = many-end c ∙ decided-each e.domains (ap decided (sym (end-domains (λ y. omega arith))) ∙ (said z).1) c (omega (arith, end-fit.sized))

  -- ---- Undecided

  -- no note counts, yet some cell has more than one pattern
  pub undecided_means : e.end ≡ 1 → ((c : ℕ) → c < cells i.grid → counts_at (notes_of i F.state) c ≡ false)
      × ((c : ℕ) × (c < cells i.grid) × (2 ≤ how_many i.table.count (get_or e.domains c 0)))
  unfolding sighted notes_of
  undecided_means z =
      let (whole, unseen, undecided) = said z in
      let same = end-domains (λ y. omega arith) in
      let (c, h, k) = undecided_some e.domains (ap decided (sym same) ∙ undecided) in (
        λ m l. sight_none (notes_of i F.state) unseen m (omega (arith, last-stands.settled.safe.fit.sized)),
        (c, omega (arith, end-fit.sized), several i.table.count e.domains c end-fit (ap emptied (sym same) ∙ sym told ∙ whole) h (λ y. k (sym (many-end c) ∙ y))),
      )

  -- ---- Paused

  -- a note counts, and no word is left
  pub paused-means : e.end ≡ 2 → ((c : ℕ) × (c < cells i.grid) × (counts_at (notes_of i F.state) c ≡ true)) × (e.used ≡ length words)
  unfolding sighted notes_of
  paused-means z =
      let (whole, (x, q), l) = said z in
      let (h, k) = sight-counts (notes_of i F.state) x q in
      ((x.cell, omega (arith, last-stands.settled.safe.fit.sized), k), omega (arith, (reached-counted i fs L words F.reached).spent))

  -- ---- Contradiction

  -- every domain is written as zero
  pub contradiction_means : e.end ≡ 3 → e.domains ≡ replicate (cells i.grid) 0
  contradiction_means z =
      end-written ∙ settled-empty F.state.domains (sym told ∙ said z) ∙ ap (λ (n : ℕ). replicate n 0) last-stands.settled.safe.fit.sized

  -- ---- each end exactly

  -- an empty cell has no pattern
  contradiction_none : e.end ≡ 3 → (c : ℕ) × (c < cells i.grid) × (how_many i.table.count (get_or e.domains c 0) ≡ 0)
  contradiction_none z =
      let (c, h, k) = emptied-at e.domains (end_contradiction.0 z) in
      (c, omega (arith, end-fit.sized), ap (how_many i.table.count) k ∙ many_none i.table.count)

  -- a cell whose note counts has more than one
  counting-open : (e.end ≡ 3 → ⊥) → (c : ℕ) → counts_at (notes_of i F.state) c ≡ true → 2 ≤ how_many i.table.count (get_or e.domains c 0)
  unfolding notes_of
  counting-open whole c k = rw (many-end c, ← end-domains whole) (counts-open (notes_of i F.state) c k)

  -- no cell is empty
  written-whole : (e.end ≡ 3 → ⊥) → emptied e.domains ≡ false
  written-whole whole = go (emptied e.domains) refl
    where
      go : (b : Bool) → emptied e.domains ≡ b → emptied e.domains ≡ false
      go true h = absurd (whole (end_contradiction.1 h))
      go false h = h

  -- Decided exactly where every cell has one pattern
  pub end-decided : (e.end ≡ 0) ↔ ((c : ℕ) → c < cells i.grid → how_many i.table.count (get_or e.domains c 0) ≡ 1)
  end-decided = (
    λ z. (decided-means z).0,
    λ one.
        by_end (λ z. z) (λ z. let (c, h, k) = (undecided_means z).1 in absurd (omega (arith, one c h)))
        (λ z. let (c, h, k) = (paused-means z).0 in absurd (omega (arith, one c h, counting-open (λ y. omega arith) c k)))
        (λ z. let (c, h, k) = contradiction_none z in absurd (omega (arith, one c h))),
  )

  -- Undecided exactly where no cell is empty, no note counts, and some cell has more than one pattern
  pub end_undecided : (e.end ≡ 1)
      ↔ ((emptied e.domains ≡ false) × ((c : ℕ) → c < cells i.grid → counts_at (notes_of i F.state) c ≡ false)
      × ((c : ℕ) × (c < cells i.grid) × (2 ≤ how_many i.table.count (get_or e.domains c 0))))
  end_undecided = (
    λ z. let (unseen, more) = undecided_means z in (written-whole (λ y. omega arith), unseen, more),
    λ (whole, unseen, (c, h, k)).
        by_end (λ z. absurd (omega (arith, (decided-means z).0 c h))) (λ z. z)
        (λ z. let (m, l, counting) = (paused-means z).0 in absurd (true≢false (sym counting ∙ unseen m l)))
        (λ z. absurd (true≢false (sym (end_contradiction.0 z) ∙ whole))),
  )

  -- Paused exactly where no cell is empty, some note counts, and no word is left
  pub end-paused : (e.end ≡ 2)
      ↔ ((emptied e.domains ≡ false) × ((c : ℕ) × (c < cells i.grid) × (counts_at (notes_of i F.state) c ≡ true)) × (e.used ≡ length words))
  end-paused = (
    λ z. let (counting, spent) = paused-means z in (written-whole (λ y. omega arith), counting, spent),
    λ (whole, (c, h, k), spent).
        by_end (λ z. absurd (omega (arith, (decided-means z).0 c h, counting-open (λ y. omega arith) c k)))
        (λ z. absurd (true≢false (sym k ∙ (undecided_means z).0 c h))) (λ z. z)
        (λ z. absurd (true≢false (sym (end_contradiction.0 z) ∙ whole))),
  )
