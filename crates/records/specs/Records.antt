-- A record: the u32 length of what follows it, a u16 kind, and its payload. Follows docs/RULES.md, "Sheet". Assumes nothing.
use Rattle.std.specs.Prelude.{Bool, ◌&&◌, List, ◌++◌, ℕ, ◌+◌, ◌-◌, ◌≤◌, leb, eqb, length, take, drop}
use Rattle.records.specs.Numbers.{u16, u32, u16At, u32_at}

-- how a record of a payload of so many bytes begins
unfoldable pub head_of : ℕ → ℕ → List ℕ
unfolding u16 u32
head_of kind size = u32 (2 + size) ++ u16 kind

-- the bytes of a record
unfoldable pub record_of : ℕ → List ℕ → List ℕ
unfolding head_of
record_of kind payload = head_of kind (length payload) ++ payload

-- bytes begin with a record of the kind: its length is 2 or more and does not reach past their end
unfoldable pub begins : ℕ → List ℕ → Bool
unfolding u16At u32_at
begins kind b = leb 6 (length b) && (eqb (u16At b 4) kind && (leb 2 (u32_at b 0) && leb (u32_at b 0) (length b - 4)))

-- what that says of the record's place
pub record Framed (b : List ℕ) : Type 0 where
  pub six : 6 ≤ length b
  pub two : 2 ≤ u32_at b 0
  pub within : u32_at b 0 + 4 ≤ length b

-- what that record holds
unfoldable pub payload_of : List ℕ → List ℕ
unfolding u32_at
payload_of b = take (u32_at b 0 - 2) (drop 6 b)

-- what follows it
unfoldable pub rest_of : List ℕ → List ℕ
unfolding u32_at
rest_of b = drop (4 + u32_at b 0) b
