-- Laws of the draw: it uses one word that is there, gives a number below the sum, and does not depend on the words that follow.
-- Follows docs/RULES.md, "Run". Assumes nothing.
use mathlib.Core.Bool.{Bool, true, false, cond}
use mathlib.Core.List.{List, ◌++◌}
use Rattle.std.specs.Prelude.{None, Some}
use Rattle.std.proofs.lemmas.Option.{same_Some, none-some}
use mathlib.Core.Path.{◌≡◌, refl, sym, ap, subst}
use Prim.Native.Nat.{ℕ, suc, ◌+◌, ◌%◌, ◌≤◌, ◌<◌}
use native.Mathlib.Nat.{mod-lt}
use native.Mathlib.Omega.{arith}
use lib.Dec.{ltb}
use lib.ListN.{length, get_or, length-append, get_or-append}
use borrow.Author.Tests.{ltb-true, ltb-false, lt-ltb}
use Rattle.choice.specs.Choice.{Draw, draw}

module _ (words : List ℕ) (used sum : ℕ) where
  -- the word after those used, modulo the sum
  abbrev next : Draw
  next = record { number = get_or words used 0 % sum; used = used + 1 }

  -- nothing is drawn only where no word is left
  pub draw_none : draw words used sum ≡ None → length words ≤ used
  unfolding draw
  draw_none = go (ltb used (length words)) refl
    where
      go : (b : Bool) → ltb used (length words) ≡ b → cond b (Some next) None ≡ None → length words ≤ used
      go true l e = absurd (none-some next (sym e))
      go false l e = ltb-false used (length words) l

  module _ (d : Draw) (e : draw words used sum ≡ Some d) where
    drawn : (used < length words) × (next ≡ d)
    unfolding draw
    drawn = go (ltb used (length words)) refl e
      where
        go : (b : Bool) → ltb used (length words) ≡ b → cond b (Some next) None ≡ Some d → (used < length words) × (next ≡ d)
        go true l e = (ltb-true used (length words) l, same_Some next d e)
        go false l e = absurd (none-some d e)

    -- there is a word
    pub draw-left : used < length words
    draw-left = drawn.0

    -- it is used, and no other
    pub draw-one : d.used ≡ suc used
    draw-one = omega (arith, ap (λ (x : Draw). x.used) drawn.1)

    -- the number is below the sum
    pub draw-below : 0 < sum → d.number < sum
    draw-below h = subst (λ (x : Draw). x.number < sum) drawn.1 (mod-lt (get_or words used 0) h)

    -- the words that follow do not matter
    pub draw-longer : (more : List ℕ) → draw (words ++ more) used sum ≡ Some d
    unfolding draw
    draw-longer more =
        let l : used < length (words ++ more) = omega (arith, length-append words more, draw-left) in
        rw (lt-ltb used (length (words ++ more)) l, get_or-append words more 0 used draw-left) (ap Some drawn.1)
