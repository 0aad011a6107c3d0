-- The main law: bytes end a scan well exactly where they are a sheet. And bytes may be read in pieces.
-- Assumes nothing.
use mathlib.Core.Bool.{Bool, true, false, ◌&&◌, and_assoc, and_comm, false≢true}
use mathlib.Core.List.{List, [], ◌∷◌, ◌++◌}
use mathlib.Core.Path.{◌≡◌, refl, sym, ap, ◌∙◌}
use Prim.Native.Nat.{ℕ, zero, suc, ◌*◌}
use native.Mathlib.Omega.{arith}
use lib.Dec.{eqb}
use lib.ListN.{length}
use Rattle.records.specs.Numbers.{u16At}
use Rattle.records.specs.Records.{begins, payload_of, rest_of}
use Rattle.layout.specs.Reading.{framed, count_in, weights_fit, lists_fit, grid_fits, forbids_fit, well_formed}
use Rattle.loops.specs.Loops.{each}
use Rattle.scan.specs.declared.inner.Scan.{Scan}
use Rattle.scan.specs.declared.inner.Scan.TheVariants.{Bad, Head, Count, High, Pass, Lists, Ids, Forbids}
use Rattle.scan.specs.Scanning.{holding, step, start, past, formed, bad, Reached, Scanned}
use Rattle.records.proofs.RecordLaws.{Bytes}
use Rattle.scan.proofs.AfterLaws.{after, after-bad, after-record}
use Rattle.scan.proofs.PayloadLaws.{weights-held, lists-held, grid-held}
use Rattle.scan.proofs.ForbidLaws.{forbids-held}

-- ---- each record and those after it

from-forbids : (b : List ℕ) → after (Head 4 0 0 0) b ≡ begins 4 b && (forbids_fit (payload_of b) && eqb (length (rest_of b)) 0)
unfolding holding
from-forbids b = after-record 4 0 (omega arith) (λ p r. forbids_fit p && eqb (length r) 0) (λ m p. forbids-held m p) b

from-grid : (b : List ℕ) → after (Head 3 0 0 0) b ≡ begins 3 b && (grid_fits (payload_of b) && after (Head 4 0 0 0) (rest_of b))
unfolding holding
from-grid b = after-record 3 0 (omega arith) (λ p r. grid_fits p && after (Head 4 0 0 0) r) (λ m p. grid-held m p) b

from-lists : (lists : ℕ) (b : List ℕ) → after (Head 2 lists 0 0) b ≡ begins 2 b && (lists_fit lists (payload_of b) && after (Head 3 0 0 0) (rest_of b))
unfolding holding
from-lists lists b = after-record 2 lists (omega arith) (λ p r. lists_fit lists p && after (Head 3 0 0 0) r) (λ m p. lists-held lists m p) b

from-weights : (b : List ℕ) → after start b ≡ begins 1 b && (weights_fit (payload_of b) && after (Head 2 (4 * count_in b) 0 0) (rest_of b))
unfolding holding count_in
from-weights b = after-record 1 0 (omega arith) (λ p r. weights_fit p && after (Head 2 (4 * u16At p 0) 0 0) r) (λ m p. weights-held m p) b

-- ---- the whole

-- record by record, or first all records and then what they hold
regroup : (r₁ h₁ r₂ h₂ r₃ h₃ r₄ h₄ e : Bool)
    → r₁ && (h₁ && (r₂ && (h₂ && (r₃ && (h₃ && (r₄ && (h₄ && e)))))))
    ≡ (r₁ && (r₂ && (r₃ && (r₄ && e)))) && (h₁ && (h₂ && (h₃ && h₄)))
regroup r₁ h₁ r₂ h₂ r₃ h₃ r₄ h₄ e = simp (and_assoc, and_comm, and_left)
  where
    and_left : (a b c : Bool) → a && (b && c) ≡ b && (a && c)
    and_left a b c = sym (and_assoc a b c) ∙ ap (λ (t : Bool). t && c) (and_comm a b) ∙ and_assoc b a c

pub scan-is : (b : List ℕ) → formed (past start b) ≡ well_formed b
unfolding well_formed framed
scan-is b =
    let l = rest_of b in
    let g = rest_of l in
    let f = rest_of g in
    from-weights b
    ∙ rw (from-lists (4 * count_in b) l, from-grid g, from-forbids f)
    (regroup (begins 1 b) (weights_fit (payload_of b)) (begins 2 l) (lists_fit (4 * count_in b) (payload_of l)) (begins 3 g) (grid_fits (payload_of g)) (begins 4 f)
    (forbids_fit (payload_of f)) (eqb (length (rest_of f)) 0))

-- where the state is bad, no bytes more make a sheet of it
pub bad-stays : (s : Scan) → bad s ≡ true → (b : List ℕ) → formed (past s b) ≡ false
unfolding bad
bad-stays Bad e b = after-bad b
bad-stays (Head kind lists at size) e b = absurd (false≢true e)
bad-stays (Count left) e b = absurd (false≢true e)
bad-stays (High left low) e b = absurd (false≢true e)
bad-stays (Pass left kind lists) e b = absurd (false≢true e)
bad-stays (Lists left lists) e b = absurd (false≢true e)
bad-stays (Ids ids left lists) e b = absurd (false≢true e)
bad-stays (Forbids left) e b = absurd (false≢true e)

-- ---- in pieces

pub past-append : (s : Scan) (a b : List ℕ) → past s (a ++ b) ≡ past (past s a) b
unfolding past each
past-append s [] b = refl
past-append s (x ∷ a) b = past-append (step x s) a b

bytes-append : (a b : List ℕ) → Bytes a → Bytes b → Bytes (a ++ b)
bytes-append [] b h l k = l k
bytes-append (x ∷ a) b h l zero = h 0
bytes-append (x ∷ a) b h l (suc k) = bytes-append a b (λ i. h (suc i)) l k

-- no bytes lead to where one is; and where some lead on, bytes more do
pub reached_none : (s : Scan) → Reached s s
unfolding past each
reached_none s = record { between = []; bytes = λ k. omega arith; state = refl }

pub reached_more : {s t u : Scan} → Reached s t → Reached t u → Reached s u
reached_more {s} {t} {u} R Q =
    let a = R.between in
    let b = Q.between in
    record {
      between = a ++ b;
      bytes = bytes-append a b R.bytes Q.bytes;
      state = Q.state ∙ ap (λ (v : Scan). past v b) R.state ∙ sym (past-append s a b);
    }

-- a program has read nothing; has read some bytes more; and knows whether they are a sheet
pub scanned_none : Scanned [] start
unfolding past each
scanned_none = record { bytes = λ k. omega arith; state = refl }

pub scanned_more : {b : List ℕ} {s : Scan} → Scanned b s → (c : List ℕ) → Bytes c → {r : Scan} → r ≡ past s c → Scanned (b ++ c) r
scanned_more {b} {s} S c h e =
    record { bytes = bytes-append b c S.bytes h; state = e ∙ ap (λ (t : Scan). past t c) S.state ∙ sym (past-append start b c) }

pub scanned-formed : {b : List ℕ} {s : Scan} → Scanned b s → formed s ≡ well_formed b
scanned-formed {b} S = ap formed S.state ∙ scan-is b
