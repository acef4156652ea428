-- What is seen of two clauses side by side.
use Rattle.std.specs.Prelude.{◌≡◌, ◌≢◌, ℕ, Some}
use Rattle.q_logic.specs.Prelude.{Literal, negation, Clause, IsIn, Slots, slot}

-- two different numbers have clauses
pub record AreTwo (N : Slots) (c d : ℕ) : Type 0 where
  pub apart : c ≢ d
  pub inner : (C : Clause) × (slot N c ≡ Some C)
  pub other : (D : Clause) × (slot N d ≡ Some D)

-- l is in D, and each literal of C but not l is in D and is not l
pub record IsTurnedWithin (C D : Clause) (l : Literal) : Type 0 where
  pub held : IsIn l D
  pub rest : (k : Literal) → IsIn k C → k ≢ negation l → IsIn k D × (k ≢ l)
