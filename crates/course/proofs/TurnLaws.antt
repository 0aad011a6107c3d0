-- What a turn of a run does: it ends the run, or it makes one choice with one word, at a cell whose note counts, of a pattern that is possible there.
-- Follows docs/RULES.md, "Run". Assumes nothing.
use mathlib.Core.Bool.{Bool, true, false, cond}
use mathlib.Core.List.{List}
use mathlib.Core.Path.{◌≡◌, refl, sym, ap, ◌∙◌, subst}
use Prim.Native.Nat.{ℕ, zero, suc, ◌≤◌, ◌<◌}
use lib.Ieee.{Float}
use lib.ListN.{length, get_or, replicate}
use Rattle.words.specs.Words.{how_many}
use Rattle.adjacency.specs.Weights.{weight_sum}
use Rattle.consistency.specs.Domains.{possible}
use Rattle.consistency.specs.Worklist.{State}
use Rattle.consistency.specs.Start.{others}
use Rattle.notes.specs.Beside.{Beside}
use Rattle.std.specs.Prelude.{Some, None, Option}
use Rattle.std.proofs.lemmas.Option.{same_Some, none-some}
use Rattle.choice.specs.declared.inner.Sight.{Sight}
use Rattle.choice.specs.Observer.{Notes, counts_at, observe, sight_of, Observed, sight}
use Rattle.choice.specs.Choice.{Draw, draw, taken}
use Rattle.course.specs.Run.{Given, reduced_by, notes_of, sighted, Ended, ended, decided, still, chosen, Turn, drawn, seen, turn, collapse}
use Rattle.course.specs.Course.{other_than, drawn_off, seen_off, turned_off}
use Rattle.choice.proofs.DrawLaws.{draw_none, draw-left, draw-one, draw-below}
use Rattle.choice.proofs.ChoiceLaws.{taken-some, taken_in}
use Rattle.choice.proofs.ObserverLaws.{valid-counts, valid-weight, nothing-counts, observed-seen}

-- ---- what is sighted

module _ (v : Notes) where
  -- a cell whose note counts is open
  pub counts-open : (c : ℕ) → counts_at v c ≡ true → 2 ≤ how_many 64 (get_or v.domains c 0)
  counts-open c e = (valid-counts (get_or v.counts c 0) (get_or v.domains c 0) v.mask e).several

  -- a cell that is named has a note that counts
  pub sight-counts : (x : Sight) → sight_of (observe v) ≡ Some x → (x.cell < length v.domains) × (counts_at v x.cell ≡ true)
  unfolding sight_of
  sight-counts x = go (observe v) (λ c e is. let h = observed-seen v is in (h.inside, h.counts))
    where
      go : (o : Observed) → ((c : ℕ) (e : Float) → o ≡ Some (sight c e) → (c < length v.domains) × (counts_at v c ≡ true)) → sight_of o ≡ Some x
          → (x.cell < length v.domains) × (counts_at v x.cell ≡ true)
      go (Some y) f q = let z : y.cell ≡ x.cell = ap (λ (z : Sight). z.cell) (same_Some y x q) in rw (← z) (f y.cell y.entropy refl)
      go None f q = absurd (none-some x q)

  -- where none is named no note counts
  pub sight_none : sight_of (observe v) ≡ None → (c : ℕ) → c < length v.domains → counts_at v c ≡ false
  unfolding sight_of
  sight_none = go (observe v) (λ is. nothing-counts v is)
    where
      go : (o : Observed) → (o ≡ None → (c : ℕ) → c < length v.domains → counts_at v c ≡ false) → sight_of o ≡ None → (c : ℕ) → c < length v.domains → counts_at v c ≡ false
      go (Some y) f q = absurd (none-some y (sym q))
      go None f q = f refl

-- ---- what a turn does

module _ (i : Given) (words : List ℕ) (used : ℕ) (s : State Beside) where
  -- what the number of an end says of the state: Decided (0), Undecided (1), Paused (2), Contradiction (3)
  abbrev pub Says : ℕ → Type 0
  Says zero = (s.empty ≡ false) × (decided s.domains ≡ true)
  Says (suc zero) = (s.empty ≡ false) × (sighted i s ≡ None) × (decided s.domains ≡ false)
  Says (suc (suc zero)) = (s.empty ≡ false) × ((x : Sight) × (sighted i s ≡ Some x)) × (length words ≤ used)
  Says (suc (suc (suc zero))) = s.empty ≡ true
  Says (suc (suc (suc (suc n)))) = ⊥

  -- the run ends there: no more words are used, and the state's domains are written, or zeros
  pub record Over (e : Ended) : Type 0 where
    pub says : Says e.end
    pub spent : e.used ≡ used
    pub written : e.domains ≡ cond s.empty (replicate (length s.domains) 0) s.domains

  -- a choice, after which `more` words are used and the run is at s'
  pub record Chosen (more : ℕ) (s' : State Beside) : Type 0 where
    pub whole : s.empty ≡ false
    pub cell : ℕ
    pub pattern : ℕ
    pub inside : cell < length s.domains
    pub counting : counts_at (notes_of i s) cell ≡ true
    pub present : possible s.domains cell pattern ≡ 1
    pub left : used < length words
    pub one : more ≡ suc used
    pub asks : turned_off i words used s ≡ others i.table.count cell pattern
    pub made : s' ≡ reduced_by i (others i.table.count cell pattern) s

  -- a turn does one of these
  pub data Turned : Turn → Type 0 where
    ends : {e : Ended} → Over e → Turned (Turn.over e)
    goes : {more : ℕ} {s' : State Beside} → Chosen more s' → Turned (Turn.on more s')

  over-whole : (n : ℕ) → s.empty ≡ false → Says n → Over (ended n used s.domains)
  over-whole n e h = record { says = h; spent = refl; written = rw e }

  over-empty : s.empty ≡ true → Over (ended 3 used (replicate (length s.domains) 0))
  over-empty e = record { says = e; spent = refl; written = rw e }

  -- what a draw comes to, at the cell that is sighted
  module _ (x : Sight) (e : s.empty ≡ false) (q : sighted i s ≡ Some x) where
    abbrev word : ℕ
    word = get_or s.domains x.cell 0

    chosen_by : (d : Draw) → draw words used (weight_sum i.weights word) ≡ Some d → Chosen d.used (chosen i x.cell (taken i.weights word d.number) s)
    unfolding sighted notes_of chosen turned_off seen_off drawn_off other_than
    chosen_by d z =
        let (inside, counting) = sight-counts (notes_of i s) x q in
        let sum = weight_sum i.weights word in
        let low = draw-below words used sum d z (valid-weight i.weights (get_or (notes_of i s).counts x.cell 0) word counting) in
        let (p, t) = taken-some i.weights word d.number low in
        record {
          whole = e;
          cell = x.cell;
          pattern = p;
          inside = inside;
          counting = counting;
          present = (taken_in i.weights word d.number p t).0;
          left = draw-left words used sum d z;
          one = draw-one words used sum d z;
          asks = ap (seen_off i words used s) q ∙ ap (drawn_off i s x.cell) z ∙ ap (other_than i.table.count x.cell) t;
          made = ap (λ (o : Option ℕ). chosen i x.cell o s) t;
        }

    turned-draw : (o : Option Draw) → draw words used (weight_sum i.weights word) ≡ o → Turned (drawn i used s x.cell o)
    unfolding drawn
    turned-draw None z = ends (over-whole 2 e (e, (x, q), draw_none words used (weight_sum i.weights word) z))
    turned-draw (Some d) z = goes (chosen_by d z)

  over-still : s.empty ≡ false → sighted i s ≡ None → Over (still used s)
  unfolding still
  over-still e q = go (decided s.domains) refl
    where
      go : (b : Bool) → decided s.domains ≡ b → Over (ended (cond b 0 1) used s.domains)
      go true d = over-whole 0 e (e, d)
      go false d = over-whole 1 e (e, q, d)

  turned-sight : (o : Option Sight) → s.empty ≡ false → sighted i s ≡ o → Turned (seen i words used s o)
  unfolding seen
  turned-sight None e q = ends (over-still e q)
  turned-sight (Some x) e q = turned-draw x e q (draw words used (weight_sum i.weights (get_or s.domains x.cell 0))) refl

  -- what it does
  pub turned : Turned (turn i words used s)
  unfolding turn
  turned = go s.empty refl
    where
      go : (b : Bool) → s.empty ≡ b → Turned (cond b (Turn.over (ended 3 used (replicate (length s.domains) 0))) (seen i words used s (sighted i s)))
      go true e = ends (over-empty e)
      go false e = turned-sight (sighted i s) e refl

  -- a turn that ends the run
  pub turn-over : {e : Ended} → turn i words used s ≡ Turn.over e → Over e
  turn-over {e} q = go (subst Turned q turned)
    where
      go : Turned (Turn.over e) → Over e
      go (ends h) = h

  -- a turn after which it goes on
  pub turn_on : {more : ℕ} {s' : State Beside} → turn i words used s ≡ Turn.on more s' → Chosen more s'
  turn_on {more} {s'} q = go (subst Turned q turned)
    where
      go : Turned (Turn.on more s') → Chosen more s'
      go (goes h) = h

  -- ---- a turn of the whole run

  pub collapse-over : (fuel : ℕ) {e : Ended} → turn i words used s ≡ Turn.over e → collapse i words (suc fuel) used s ≡ e
  unfolding collapse
  collapse-over fuel q = rw (q, collapse)

  pub collapse-on : (fuel : ℕ) {more : ℕ} {s' : State Beside} → turn i words used s ≡ Turn.on more s' → collapse i words (suc fuel) used s ≡ collapse i words fuel more s'
  unfolding collapse
  collapse-on fuel q = rw (q, collapse)
