-- A universal literal that may leave all clauses.
use Rattle.std.specs.Prelude.{◌≡◌, ◌≤◌, ◌+◌, ◌*◌, ℕ, true}
use Rattle.q_logic.specs.Prelude.{Literal, negation, Clause, IsIn, is_universal, Reached, with_literal, each_without, size_of, live}
use Rattle.q_kernel.specs.Prelude.{Seen, slots, IsLed}

-- no clause with the literal reaches one with its negation
pub record MayLose (k : Seen) (l : Literal) : Type 0 where
  pub universal : is_universal k.prefix l.var ≡ true
  pub none : (C D : Clause) → IsIn C (live (slots k)) → IsIn l C → Reached k.prefix (live (slots k)) C l D → IsIn (negation l) D → ⊥

-- the literal has left all clauses
pub record HasLost (old new : Seen) (l : Literal) : Type 0 where
  pub led : IsLed old new
  pub prefix : new.prefix ≡ old.prefix
  pub matrix : live (slots new) ≡ each_without l (live (slots old))
  pub bytes : (later : ℕ) → 16 * size_of (with_literal l (live (slots old))) + later ≤ old.spare_bytes → later ≤ new.spare_bytes
