-- Clauses that come to a kernel, and clauses that go.
use Rattle.std.specs.Prelude.{ℕ, ◌≡◌, ◌≤◌, ◌+◌, ◌*◌, ◌++◌, length, Some}
use Rattle.q_logic.specs.Prelude.{Literal, negation, Clause, Matrix, IsIn, ExistsPivot, without_literal, standard, size_of, slot, live, copies, literals_in, KeepsLimits}
use Rattle.q_kernel.specs.Prelude.{Seen, slots, HasSweepBytes, IsLed}

-- there is room for some clauses, and the limits of the checker let them come
pub record CanGrow (k : Seen) (V : Matrix) : Type 0 where
  pub words : literals_in V ≤ k.arena.spare_words
  pub ids : length V ≤ k.arena.spare_ids
  pub bytes : 16 * size_of V ≤ k.spare_bytes
  pub limits : KeepsLimits standard (V ++ live (slots k))

-- some clauses have come: what was there is still there
pub record HasGrown (old new : Seen) (V : Matrix) : Type 0 where
  pub led : IsLed old new
  pub prefix : new.prefix ≡ old.prefix
  pub kept : (c : ℕ) (C : Clause) → slot (slots old) c ≡ Some C → slot (slots new) c ≡ Some C
  pub clauses : (C : Clause) → copies C (live (slots new)) ≡ copies C (V ++ live (slots old))
  pub words : old.arena.spare_words ≤ new.arena.spare_words + literals_in V
  pub ids : old.arena.spare_ids ≤ new.arena.spare_ids + length V
  pub bytes : old.spare_bytes ≤ new.spare_bytes + 16 * size_of V

-- each clause with a literal may go by it as pivot, from what is left while they go
abbrev pub MayGoBy : Seen → Literal → Type 0
MayGoBy k m = (C : Clause) → IsIn C (live (slots k)) → IsIn m C → (Z : Matrix) → ((D : Clause) → IsIn D (without_literal m (live (slots k))) → IsIn D Z) → ((D : Clause) → IsIn D Z → IsIn D (live (slots k))) → ExistsPivot k.prefix Z C m

-- the clauses with a literal have gone
pub record HasShrunk (old new : Seen) (m : Literal) : Type 0 where
  pub led : IsLed old new
  pub prefix : new.prefix ≡ old.prefix
  pub clauses : live (slots new) ≡ without_literal m (live (slots old))
  pub bytes : HasSweepBytes new

-- and then those with its negation
abbrev pub MayGoByLater : Seen → Literal → Type 0
MayGoByLater k n = (C : Clause) → IsIn C (without_literal (negation n) (live (slots k))) → IsIn n C → (Z : Matrix) → ((D : Clause) → IsIn D Z → IsIn D (without_literal (negation n) (live (slots k)))) → ExistsPivot k.prefix Z C n

-- the clauses with a literal or its negation have gone
pub record HasLost (old new : Seen) (n : Literal) : Type 0 where
  pub led : IsLed old new
  pub prefix : new.prefix ≡ old.prefix
  pub clauses : live (slots new) ≡ without_literal n (without_literal (negation n) (live (slots old)))
  pub bytes : HasSweepBytes new
