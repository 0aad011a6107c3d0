-- Laws of a list as a part of the ids: what the number says is that part. Follows docs/RULES.md, "Tables". Assumes nothing.
use mathlib.Core.List.{List, [], ◌∷◌}
use mathlib.Core.Path.{◌≡◌, refl, sym, ap, ◌∙◌}
use Prim.Native.Nat.{ℕ, zero, suc, ◌+◌, ◌-◌, ◌*◌, ◌≤◌}
use native.Mathlib.Omega.{arith}
use lib.ListN.{length, get_or, take, drop}
use Rattle.refusals.specs.declared.Refusal.{Refusal}
use Rattle.refusals.specs.Refusals.{number}
use Rattle.adjacency.specs.Tables.{Table, list_at, list_of}
use Rattle.adjacency.specs.Lookup.{list_refusal, list_answer}
use Rattle.ocean_c.specs.Coded.{cased}
use Rattle.ocean_c.specs.Parts.{part_coded, list_coded, long_in, start_in}
use Rattle.refusals.proofs.RefusalLaws.{number-positive}
use Rattle.adjacency.proofs.AcceptedLaws.{list-short}
use Rattle.adjacency.proofs.LookupLaws.{answered, list_answer-list}

-- ---- a number and what is read off

part-refused : (n long start : ℕ) → (n ≡ 0 → ⊥) → part_coded n long start ≡ n
unfolding part_coded
part-refused zero long start h = absurd (h refl)
part-refused (suc n) long start h = refl

long_in-cased : (long start : ℕ) → long ≤ 64 → long_in (cased long start) ≡ long
unfolding long_in cased
long_in-cased long start h = omega (arith, h)

start_in-cased : (long start : ℕ) → long ≤ 64 → start_in (cased long start) ≡ start
unfolding start_in cased
start_in-cased long start h = omega (arith, h)

-- as many entries as a part has, from where it begins, are that part
take_again : (k : ℕ) (l : List ℕ) → take (length (take k l)) l ≡ take k l
take_again zero l = refl
take_again (suc k) [] = refl
take_again (suc k) (x ∷ l) = ap (λ (r : List ℕ). x ∷ r) (take_again k l)

-- ---- a list

module _ (t : Table) (p d : ℕ) where
  -- the number of a list that is answered, and of one that is not
  pub list-answered : list_refusal t p d ≡ 0 → list_coded t p d ≡ cased (length (list_of t p d)) (get_or t.offsets (4 * p + d) 0)
  unfolding list_coded part_coded
  list-answered e = rw e

  pub list-refused : (r : Refusal) → list_refusal t p d ≡ number r → list_coded t p d ≡ number r
  unfolding list_coded
  list-refused r e = rw e (part-refused (number r) (length (list_of t p d)) (get_or t.offsets (4 * p + d) 0) (number-positive r))

  -- a list has at most 64 ids
  pub list-few : list_refusal t p d ≡ 0 → length (list_of t p d) ≤ 64
  list-few e =
      let (ok, hp, hd) = answered t p d e in
      omega (arith, list-short t ok p d hp hd, ok.few)

  -- the part of the ids that the number names is the list
  pub list-told : list_refusal t p d ≡ 0 → take (long_in (list_coded t p d)) (drop (start_in (list_coded t p d)) t.ids) ≡ list_answer t p d
  unfolding list_of list_at
  list-told e =
      let few = list-few e in
      let n = length (list_of t p d) in
      let a = get_or t.offsets (4 * p + d) 0 in
      let long : long_in (list_coded t p d) ≡ n = ap long_in (list-answered e) ∙ long_in-cased n a few in
      let start : start_in (list_coded t p d) ≡ a = ap start_in (list-answered e) ∙ start_in-cased n a few in
      (λ j. take (long j) (drop (start j) t.ids))
      ∙ take_again (get_or t.offsets (4 * p + d + 1) 0 - a) (drop a t.ids)
      ∙ sym (list_answer-list t p d e)
