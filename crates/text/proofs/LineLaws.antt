-- A line of a table of texts is a part of it, as the table is split at its line ends. Assumes nothing.
use mathlib.Core.Bool.{Bool, true, false, true≢false}
use mathlib.Core.List.{List, [], ◌∷◌, ◌++◌, append-nil}
use mathlib.Core.Path.{◌≡◌, refl, sym, ap, subst, ◌∙◌}
use Prim.Native.Nat.{ℕ, zero, suc, ◌≤◌, ◌<◌}
use native.Mathlib.Omega.{arith}
use denote.Param.Members.{Mut}
use denote.Ref.{Bor}
use lib.Dec.{eqb}
use lib.ListN.{length, get_or, length-append}
use lib.Seq.{get_or-append_seam}
use Rattle.std.proofs.lemmas.List.{get_or_append_left}
use Rattle.std.specs.declared.slice.Split.{Split}
use Rattle.std.specs.declared.option.Option.{Option}
use Rattle.std.specs.declared.option.Option.TheVariants.{None, Some}
use Rattle.std.specs.Fn.{ComputesKey}
use Rattle.std.specs.Iterator.{Yields, SkipsThenYields}
use Rattle.std.specs.List.{IsFirstMatchOrLen}
use Rattle.std.specs.Option.{MatchOption}
use Rattle.std.specs.Slice.Iter.{split_rest, split_done, split_callee, split_steps}
use Rattle.text.specs.Pages.{line}

-- ---- the first part and what follows it

-- no line end
abbrev Whole : List ℕ → Type 0
Whole t = (k : ℕ) (d : ℕ) → k < length t → eqb (get_or t k d) 10 ≡ false

rest_whole : (b : ℕ) (t : List ℕ) → Whole (b ∷ t) → Whole t
rest_whole b t h = λ k d l. h (suc k) d (omega arith)

line-first : (t : List ℕ) → Whole t → line 0 t ≡ t
unfolding line
line-first [] h = refl
line-first (b ∷ t) h = simp (h 0 0 (omega arith)) (ap (λ (l : List ℕ). b ∷ l) (line-first t (rest_whole b t h)))

line_none : (k : ℕ) (t : List ℕ) → Whole t → line (suc k) t ≡ []
unfolding line
line_none k [] h = refl
line_none k (b ∷ t) h = simp (h 0 0 (omega arith)) (line_none k t (rest_whole b t h))

line-cut : (t : List ℕ) (b : ℕ) (rest : List ℕ) → Whole t → eqb b 10 ≡ true → line 0 (t ++ b ∷ rest) ≡ t
unfolding line
line-cut [] b rest h e = simp e
line-cut (c ∷ t) b rest h e = simp (h 0 0 (omega arith)) (ap (λ (l : List ℕ). c ∷ l) (line-cut t b rest (rest_whole c t h) e))

line_next : (k : ℕ) (t : List ℕ) (b : ℕ) (rest : List ℕ) → Whole t → eqb b 10 ≡ true → line (suc k) (t ++ b ∷ rest) ≡ line k rest
unfolding line
line_next k [] b rest h e = simp e
line_next k (c ∷ t) b rest h e = simp (h 0 0 (omega arith)) (line_next k t b rest (rest_whole c t h) e)

-- ---- all parts

module _ {F : Type 0} (g : Mut F (Bor ℕ × Unit {0}) Bool) where
  abbrev Part : Split ℕ F → Option (Bor (List ℕ)) → Split ℕ F → Type 0
  Part = split_steps g

  -- the closure tells line ends
  abbrev pub Tells : F → Type 0
  Tells f = ComputesKey g (λ b. eqb b 10) f

  -- what a part is that came: all that was left, which has no line end, or what stood before the first one
  abbrev Cut : Bool → Split ℕ F → List ℕ → Split ℕ F → Type 0
  Cut true s x j = (split_rest s ≡ x) × Whole x
  Cut false s x j = (b : ℕ) × (split_rest s ≡ x ++ b ∷ split_rest j) × Whole x × (eqb b 10 ≡ true) × Tells (split_callee j)

  front : (l x rest : List ℕ) → l ≡ x ++ rest → IsFirstMatchOrLen (λ b. eqb b 10) l (length x) → Whole x
  front l x rest e h = λ k d less. sym (ap (λ (t : List ℕ). eqb (get_or t k d) 10) e ∙ ap (λ (b : ℕ). eqb b 10) (get_or_append_left x rest d k less)) ∙ h.0 k d (omega arith) less

  cut : (b : Bool) (s j : Split ℕ F) (x : Bor (List ℕ)) → split_done j ≡ b → Tells (split_callee s) → Part s (Some x) j → Cut b s x.now j
  cut true s j x e tells h =
      let all : split_rest s ≡ x.now = rw e at h.1 in
      let first = h.2 (λ b. eqb b 10) tells in
      (all, front (split_rest s) x.now [] (all ∙ sym (append-nil x.now)) first.1)
  cut false s j x e tells h =
      let part : (b : ℕ) × (split_rest s ≡ x.now ++ b ∷ split_rest j) = rw e at h.1 in
      let first = h.2 (λ b. eqb b 10) tells in
      let within : length x.now < length (split_rest s) = omega (arith, ap length part.1, length-append x.now (part.0 ∷ split_rest j)) in
      let here : get_or (split_rest s) (length x.now) 0 ≡ part.0 = ap (λ (t : List ℕ). get_or t (length x.now) 0) part.1 ∙ get_or-append_seam x.now part.0 (split_rest j) 0 in
      (part.0, part.1, front (split_rest s) x.now (part.0 ∷ split_rest j) part.1 first.1, sym (ap (λ (b : ℕ). eqb b 10) here) ∙ (first.1).1 within 0, first.0)

  last : (b : Bool) (k : ℕ) (s u : Split ℕ F) (x : Bor (List ℕ)) → split_done u ≡ b → Tells (split_callee s) → Part s (Some x) u → 0 ≡ k → line k (split_rest s) ≡ x.now
  last true zero s u x e tells p n =
      let c = cut true s u x e tells p in
      rw c.0 (line-first x.now c.1)
  last false zero s u x e tells p n =
      let c = cut false s u x e tells p in
      rw c.1 (line-cut x.now c.0 (split_rest u) c.2 c.3)
  last b (suc k) s u x e tells p n = absurd (omega arith)

  -- a line is the part that came, and empty where none did
  abbrev pub Found : Option (Bor (List ℕ)) → List ℕ → Type 0
  Found r l = MatchOption r (l ≡ []) (λ x. l ≡ x.now)

  -- after the last part none comes
  over : (xs : List (Bor (List ℕ))) (j t u : Split ℕ F) (r : Option (Bor (List ℕ))) (l : List ℕ) → split_done j ≡ true → Yields Part j xs t → Part t r u → l ≡ [] → Found r l
  over [] j t u None l done ys p e = e
  over [] j t u (Some y) l done ys p e = absurd (true≢false (sym done ∙ ap split_done ys ∙ p.0))
  over (y ∷ xs) j t u r l done ys p e = absurd (true≢false (sym done ∙ (ys.1).0))

  fewer : (k m : ℕ) (r : Option (Bor (List ℕ))) → MatchOption r (suc m ≤ suc k) (λ _. suc m ≡ suc k) → MatchOption r (m ≤ k) (λ _. m ≡ k)
  fewer k m None n = omega arith
  fewer k m (Some x) n = omega arith

  after : (b : Bool) (xs : List (Bor (List ℕ))) (k : ℕ) (s j t u : Split ℕ F) (r : Option (Bor (List ℕ))) (x : Bor (List ℕ)) → split_done j ≡ b → Tells (split_callee s) → Part s (Some x) j → Yields Part j xs t → Part t r u
      → (split_done j ≡ false → Tells (split_callee j) → Found r (line k (split_rest j))) → Found r (line (suc k) (split_rest s))
  after true xs k s j t u r x e tells h ys p rest =
      let c = cut true s j x e tells h in
      over xs j t u r (line (suc k) (split_rest s)) e ys p (rw c.0 (line_none k x.now c.1))
  after false xs k s j t u r x e tells h ys p rest =
      let c = cut false s j x e tells h in
      let same : line (suc k) (split_rest s) ≡ line k (split_rest j) = rw c.1 (line_next k x.now c.0 (split_rest j) c.2 c.3) in
      subst (Found r) (sym same) (rest e c.4)

  -- after as many parts as its number is, the line is the part that comes
  part_line : (xs : List (Bor (List ℕ))) (k : ℕ) (s t u : Split ℕ F) (r : Option (Bor (List ℕ))) → split_done s ≡ false → Tells (split_callee s) → Yields Part s xs t → Part t r u
      → MatchOption r (length xs ≤ k) (λ _. length xs ≡ k) → Found r (line k (split_rest s))
  part_line [] k s t u None live tells ys p n = absurd (true≢false (sym p.0 ∙ ap split_done (sym ys) ∙ live))
  part_line [] k s t u (Some x) live tells ys p n = last (split_done u) k s u x refl tells (subst (λ (v : Split ℕ F). Part v (Some x) u) (sym ys) p) n
  part_line (x ∷ xs) zero s t u None live tells ys p n = absurd (omega arith)
  part_line (x ∷ xs) zero s t u (Some y) live tells ys p n = absurd (omega arith)
  part_line (x ∷ xs) (suc k) s t u r live tells ys p n =
      after (split_done ys.0) xs k s ys.0 t u r x refl tells ys.1 ys.2 p (λ on told. part_line xs k ys.0 t u r on told ys.2 p (fewer k (length xs) r n))

  pub nth_line : (k : ℕ) (l : List ℕ) (s u : Split ℕ F) (r : Option (Bor (List ℕ))) → split_rest s ≡ l → split_done s ≡ false → Tells (split_callee s) → SkipsThenYields Part s k r u → Found r (line k l)
  nth_line k l s u r all live tells h = rw all at (part_line h.0 k s (h.1).0 u r live tells (h.1).1 (h.1).2 h.2)
