-- Nodes: places and heads, by number.
use Rattle.std.specs.Prelude.{◌≡◌, ℕ, ◌-◌, if◌then◌else◌, ◌==◌, nat_lt, List, slice_index_or}
use Rattle.std.specs.Int.RustNames.{bit_xor}
use Rattle.q_arena.specs.declared.rings.Link.{Link}

-- the number of the first head
abbrev pub base : ℕ
base = 2147483648

abbrev pub blank : Link
blank = record { next = 0; prev = 0; tag = 0 }

-- the link that a head's stored one stands for, by its own number as a node: all zeros stand for a link to itself
abbrev pub turned : ℕ → Link → Link
turned v k = record { next = bit_xor k.next v; prev = bit_xor k.prev v; tag = k.tag }

-- the link of a node: that of a place below the base, or of a head
abbrev pub node_at : List Link → List Link → ℕ → Link
node_at places heads v = if nat_lt v base then slice_index_or places v blank else turned v (slice_index_or heads (v - base) blank)

-- the links of nodes where that of one head is at hand, and not in the rows
abbrev pub held : List Link → List Link → ℕ → Link → ℕ → Link
held places heads own link v = if v == own then link else node_at places heads v

abbrev pub with_follower : Link → ℕ → Link
with_follower k n = record { next = n; prev = k.prev; tag = k.tag }

abbrev pub with_leader : Link → ℕ → Link
with_leader k n = record { next = k.next; prev = n; tag = k.tag }

-- one node has got a link
abbrev pub IsPut : (ℕ → Link) → (ℕ → Link) → ℕ → Link → Type 0
IsPut s t at' link = (k : ℕ) → t k ≡ (if k == at' then link else s k)

-- the second node follows the first, and nothing else is changed
pub record IsJoined (s t : ℕ → Link) (a b : ℕ) : Type 0 where
  pub next : (k : ℕ) → (t k).next ≡ (if k == a then b else (s k).next)
  pub prev : (k : ℕ) → (t k).prev ≡ (if k == b then a else (s k).prev)
  pub tag : (k : ℕ) → (t k).tag ≡ (s k).tag

-- one node has got a tag, and nothing else is changed
pub record IsTagged (s t : ℕ → Link) (a n : ℕ) : Type 0 where
  pub next : (k : ℕ) → (t k).next ≡ (s k).next
  pub prev : (k : ℕ) → (t k).prev ≡ (s k).prev
  pub tag : (k : ℕ) → (t k).tag ≡ (if k == a then n else (s k).tag)
