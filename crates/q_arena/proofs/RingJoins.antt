-- What a join leaves.
use Rattle.std.proofs.Common.{◌≡◌, ◌≢◌, ℕ, arith}
use Rattle.std.proofs.lemmas.Bool.Decides.{nat_tests}
use Rattle.q_arena.specs.declared.rings.Link.{Link}
use Rattle.q_arena.specs.Nodes.{IsJoined}

pub next_joined : (s t : ℕ → Link) (a b : ℕ) → IsJoined s t a b → (t a).next ≡ b
next_joined s t a b j = let x = j.next a in grind (arith, nat_tests)

pub next_other : (s t : ℕ → Link) (a b k : ℕ) → IsJoined s t a b → k ≢ a → (t k).next ≡ (s k).next
next_other s t a b k j n = let x = j.next k in grind (arith, nat_tests)

pub prev_joined : (s t : ℕ → Link) (a b : ℕ) → IsJoined s t a b → (t b).prev ≡ a
prev_joined s t a b j = let x = j.prev b in grind (arith, nat_tests)

pub prev_other : (s t : ℕ → Link) (a b k : ℕ) → IsJoined s t a b → k ≢ b → (t k).prev ≡ (s k).prev
prev_other s t a b k j n = let x = j.prev k in grind (arith, nat_tests)
