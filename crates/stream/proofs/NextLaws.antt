-- Laws of a number of the stream: each of the three that may come next.
-- Assumes nothing.
use Rattle.std.specs.Prelude.{Some, None, Ok, Err}
use mathlib.Core.List.{List}
use mathlib.Core.Path.{◌≡◌, sym, ap, ◌∙◌}
use Prim.Native.Nat.{ℕ, ◌≤◌, ◌<◌}
use borrow.Author.Tests.{lt-ltb, le-ltb, eq-eqb, ne_eqb}
use Rattle.records.specs.Numbers.{u32_at}
use Rattle.stream.specs.Cases.{next_of}

module _ (got : ℕ) (b : List ℕ) where
  pub next_end : got ≡ 0 → Ok None ≡ next_of got b
  unfolding next_of
  next_end e = sym (rw (eq-eqb got 0 e))

  pub next_short : (got ≡ 0 → ⊥) → got < 4 → Err (record {}) ≡ next_of got b
  unfolding next_of
  next_short n h = sym (rw (ne_eqb got 0 n, lt-ltb got 4 h))

  pub next_number : (got ≡ 0 → ⊥) → 4 ≤ got → (k : ℕ) → k ≡ u32_at b 0 → Ok (Some k) ≡ next_of got b
  unfolding next_of
  next_number n h k e = ap (λ (n : ℕ). Ok (Some n)) e ∙ sym (rw (ne_eqb got 0 n, le-ltb got 4 h))
