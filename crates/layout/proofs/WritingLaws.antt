-- Laws of writing: the lists and the forbids one after the other, and how long they are.
-- Assumes nothing.
use mathlib.Core.Bool.{Bool, true, false, cond}
use mathlib.Core.List.{List, [], ◌∷◌, ◌++◌}
use mathlib.Core.Path.{◌≡◌, refl, ap, ◌∙◌}
use Prim.Native.Nat.{ℕ, zero, suc, ◌+◌, ◌-◌, ◌*◌, ◌/◌, ◌%◌, ◌≤◌, ◌<◌}
use native.Mathlib.Numerals.{add-one}
use native.Mathlib.Omega.{arith}
use lib.Dec.{eqb}
use lib.ListN.{length, get_or, drop, length-append, length-drop}
use lib.Seq.{length-take-le}
use Rattle.records.specs.Numbers.{u16s}
use Rattle.adjacency.specs.Tables.{Table, list_at}
use Rattle.adjacency.specs.Accepted.{Laid, Listed, Accepted}
use Rattle.records.specs.Records.{record_of}
use Rattle.grid.specs.Grid.{Grid}
use Rattle.layout.specs.Sheet.{Sheet, list_bytes, bytes_of}
use Rattle.layout.specs.Lending.{Small, Numbered, Fitting}
use Rattle.layout.specs.Tables.{sheet_for, lists_from, lists_of, kind_of, stored}
use Rattle.records.proofs.NumberLaws.{length-u16s}
use Rattle.adjacency.proofs.ListLaws.{list_at_of}
use Rattle.adjacency.proofs.AcceptedLaws.{list-short}
use Rattle.records.proofs.RecordLaws.{length-record_of}

-- ---- lists

-- the bytes of the lists from list k on
abbrev pub bytes_from : Table → ℕ → List ℕ
bytes_from t k = list_bytes (lists_from t k (4 * t.count - k))

pub bytes_from-first : (t : Table) → bytes_from t 0 ≡ list_bytes (lists_of t)
unfolding lists_of
bytes_from-first t =
    let all : 4 * t.count - 0 ≡ 4 * t.count = omega arith in
    rw all

pub bytes_from_next : (t : Table) (k : ℕ) → k < 4 * t.count → bytes_from t k ≡ (length (list_at t k) ∷ list_at t k) ++ bytes_from t (k + 1)
unfolding lists_from list_bytes
bytes_from_next t k h =
    let n : 4 * t.count - k ≡ suc (4 * t.count - (k + 1)) = omega arith in
    rw (n, add-one k)

pub bytes_from_none : (t : Table) (k : ℕ) → 4 * t.count ≤ k → bytes_from t k ≡ []
unfolding lists_from list_bytes
bytes_from_none t k h =
    let n : 4 * t.count - k ≡ 0 = omega arith in
    rw n

module _ (t : Table) (L : Laid t) where
  pub list_at-length : (k : ℕ) → k < 4 * t.count → length (list_at t k) + get_or t.offsets k 0 ≡ get_or t.offsets (k + 1) 0
  unfolding list_at
  list_at-length k h =
      let start = get_or t.offsets k 0 in
      let end = get_or t.offsets (k + 1) 0 in
      let room : end - start ≤ length (drop start t.ids) = omega (arith, length-drop start t.ids, L.ends (k + 1) (omega arith)) in
      omega (arith, length-take-le (end - start) (drop start t.ids) room, L.rising k h)

  -- a byte for each list and one for each id
  pub bytes-length : (n k : ℕ) → k + n ≤ 4 * t.count → length (list_bytes (lists_from t k n)) + get_or t.offsets k 0 ≡ n + get_or t.offsets (k + n) 0
  unfolding lists_from list_bytes
  bytes-length zero k h =
      let none : k + 0 ≡ k = omega arith in
      rw none (omega arith)
  bytes-length (suc n) k h =
      let next : suc k + n ≡ k + suc n = omega arith in
      let rest : length (list_bytes (lists_from t (suc k) n)) + get_or t.offsets (suc k) 0 ≡ n + get_or t.offsets (k + suc n) 0 = rw next at (bytes-length n (suc k) (omega arith)) in
      let one : length (list_at t k) + get_or t.offsets k 0 ≡ get_or t.offsets (suc k) 0 = list_at-length k (omega arith) ∙ ap (λ (n : ℕ). get_or t.offsets n 0) (add-one k) in
      omega (arith, length-append (list_at t k) (list_bytes (lists_from t (suc k) n)))

pub list_bytes-length : (t : Table) → Listed t → length (list_bytes (lists_of t)) ≡ 4 * t.count + length t.ids
unfolding lists_of
list_bytes-length t L =
    let all : 0 + 4 * t.count ≡ 4 * t.count = omega arith in
    let whole : length (list_bytes (lists_from t 0 (4 * t.count))) + get_or t.offsets 0 0 ≡ 4 * t.count + get_or t.offsets (4 * t.count) 0 =
    rw all at (bytes-length t L.laid (4 * t.count) 0 (omega arith)) in
    omega (arith, L.first, L.last)

-- an accepted table has at most 64 ids for each list
pub ids-most : (t : Table) → Accepted t → length t.ids ≤ 256 * t.count
ids-most t A = omega (arith, A.listed.last, up_to (4 * t.count) (omega arith))
  where
    up_to : (k : ℕ) → k ≤ 4 * t.count → get_or t.offsets k 0 ≤ 64 * k
    up_to zero h = omega (arith, A.listed.first)
    up_to (suc k) h =
        let short : length (list_at t k) ≤ 64 = rw (list_at_of t k) (omega (arith, list-short t A (k / 4) (k % 4) (omega arith) (omega arith), A.few)) in
        let more : length (list_at t k) + get_or t.offsets k 0 ≡ get_or t.offsets (suc k) 0 = list_at-length t A.listed.laid k (omega arith) ∙ ap (λ (n : ℕ). get_or t.offsets n 0) (add-one k) in
        omega (arith, up_to k (omega arith))

-- ---- forbids

pub kind-most : (keep : ℕ) → kind_of keep ≤ 1
unfolding kind_of
kind-most keep = go (eqb keep 0)
  where
    go : (b : Bool) → cond b 0 1 ≤ 1
    go true = omega arith
    go false = omega arith

pub kind-small : (keep : ℕ) → kind_of keep < 65536
kind-small keep = omega (arith, kind-most keep)

pub stored-three : (fs : List ℕ) → length (stored fs) ≡ 3 * (length fs / 3)
unfolding stored
stored-three [] = refl
stored-three (c ∷ []) = refl
stored-three (c ∷ p ∷ []) = refl
stored-three (c ∷ p ∷ k ∷ l) = omega (arith, stored-three l)

pub stored-length : (fs : List ℕ) → length (u16s (stored fs)) ≡ 6 * (length fs / 3)
stored-length fs = omega (arith, length-u16s (stored fs), stored-three fs)

-- three numbers that fit two bytes each
pub three-small : (a b c : ℕ) → a < 65536 → b < 65536 → c < 65536 → Small (a ∷ b ∷ c ∷ [])
three-small a b c f g h zero l = f
three-small a b c f g h (suc zero) l = g
three-small a b c f g h (suc (suc zero)) l = h
three-small a b c f g h (suc (suc (suc k))) l = absurd (omega arith)

-- the forbid at the front, and those after it
module _ (rest : List ℕ) where
  stored_front : (fs : List ℕ) → length fs ≡ 3 → u16s (stored (fs ++ rest)) ≡ u16s (get_or fs 0 0 ∷ get_or fs 1 0 ∷ kind_of (get_or fs 2 0) ∷ []) ++ u16s (stored rest)
  unfolding stored u16s
  stored_front [] e = absurd (omega arith)
  stored_front (c ∷ []) e = absurd (omega arith)
  stored_front (c ∷ p ∷ []) e = absurd (omega arith)
  stored_front (c ∷ p ∷ k ∷ []) e = refl
  stored_front (c ∷ p ∷ k ∷ x ∷ l) e = absurd (omega arith)

  numbered_front : (fs : List ℕ) → length fs ≡ 3 → Numbered (fs ++ rest) → (get_or fs 0 0 < 65536) × (get_or fs 1 0 < 65536) × Numbered rest
  numbered_front [] e h = absurd (omega arith)
  numbered_front (c ∷ []) e h = absurd (omega arith)
  numbered_front (c ∷ p ∷ []) e h = absurd (omega arith)
  numbered_front (c ∷ p ∷ k ∷ []) e h =
      let (first, second) = h 0 (omega arith) in (
        first,
        second,
        λ i l.
            let a : 3 * suc i ≡ suc (suc (suc (3 * i))) = omega arith in
            let b : suc (suc (suc (3 * i))) + 1 ≡ suc (suc (suc (3 * i + 1))) = omega arith in
            rw (a, b) at (h (suc i) (omega arith)),
      )
  numbered_front (c ∷ p ∷ k ∷ x ∷ l) e h = absurd (omega arith)

module _ {forbids : List ℕ} (rest fs : List ℕ) (e : forbids ≡ fs ++ rest) (h : length fs ≡ 3) where
  pub stored_next : u16s (stored forbids) ≡ u16s (get_or fs 0 0 ∷ get_or fs 1 0 ∷ kind_of (get_or fs 2 0) ∷ []) ++ u16s (stored rest)
  stored_next = rw e (stored_front rest fs h)

  pub stored-room : 6 ≤ length (u16s (stored forbids))
  stored-room = omega (arith, stored-length forbids, ap length e, length-append fs rest, h)

  pub numbered_next : Numbered forbids → (get_or fs 0 0 < 65536) × (get_or fs 1 0 < 65536) × Numbered rest
  numbered_next n = numbered_front rest fs h (rw e at n)

pub stored_short : (fs : List ℕ) → length fs < 3 → u16s (stored fs) ≡ []
unfolding stored u16s
stored_short [] h = refl
stored_short (c ∷ []) h = refl
stored_short (c ∷ p ∷ []) h = refl
stored_short (c ∷ p ∷ k ∷ l) h = absurd (omega arith)

-- ---- the whole

pub bytes-size : (s : Sheet) → length (bytes_of s) ≡ 32 + 2 * length s.weights + length (list_bytes s.lists) + 2 * length s.forbids
unfolding bytes_of
bytes-size s =
    let r₁ = record_of 1 (u16s (length s.weights ∷ s.weights)) in
    let r₂ = record_of 2 (list_bytes s.lists) in
    let sides = s.grid.width ∷ s.grid.height ∷ s.grid.mode ∷ [] in
    let r₃ = record_of 3 (u16s sides) in
    let r₄ = record_of 4 (u16s s.forbids) in
    omega
    (arith, length-append r₁ (r₂ ++ (r₃ ++ r₄)), length-append r₂ (r₃ ++ r₄), length-append r₃ r₄, length-record_of 1 (u16s (length s.weights ∷ s.weights)), length-record_of 2 (list_bytes s.lists), length-record_of 3 (u16s sides), length-record_of 4 (u16s s.forbids), length-u16s (length s.weights ∷ s.weights), length-u16s sides, length-u16s s.forbids)

-- the sheet of what fits: 32 bytes, six for each pattern, one for each id and six for each forbid
pub fitting-size : (t : Table) (weights : List ℕ) (g : Grid) (forbids : List ℕ) → Fitting t weights g forbids
    → length (bytes_of (sheet_for t weights g forbids)) ≡ 32 + 6 * t.count + length t.ids + 2 * length forbids
unfolding sheet_for
fitting-size t weights g forbids S =
    omega (arith, bytes-size (sheet_for t weights g forbids), list_bytes-length t S.accepted.listed, stored-three forbids, S.weighed.one_each, S.threes)
