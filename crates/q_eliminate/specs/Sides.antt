-- The clauses of some ids.
use Rattle.std.specs.Prelude.{◌≡◌, ℕ, List, [], Option, None, Some}
use Rattle.q_logic.specs.Prelude.{Literal, negation, Clause, IsIn, clauses_at, Slots, slot, live, copies, with_literal}
use Rattle.q_kernel.specs.Prelude.{Seen, slots, HoldsLiteral}
use Rattle.q_eliminate.specs.declared.sides.Sides.{Sides}

-- the clause of an id, and no literal where it has none
abbrev pub clause_or_none : Option Clause → Clause
clause_or_none None = []
clause_or_none (Some C) = C

abbrev pub clause_in : Slots → ℕ → Clause
clause_in N c = clause_or_none (slot N c)

-- each id has a clause
abbrev pub AreLive : Slots → List ℕ → Type 0
AreLive N ids = (c : ℕ) → IsIn c ids → (C : Clause) × (slot N c ≡ Some C)

-- the ids are those of the clauses with a literal, each once
pub record AreIdsOf (k : Seen) (l : Literal) (ids : List ℕ) : Type 0 where
  pub held : (c : ℕ) → IsIn c ids → HoldsLiteral k c l
  pub clauses : (C : Clause) → copies C (clauses_at (slots k) ids) ≡ copies C (with_literal l (live (slots k)))

-- the ids are those of the clauses with a literal, and of those with its negation
pub record AreSidesOf (k : Seen) (l : Literal) (s : Sides) : Type 0 where
  pub positive : AreIdsOf k l s.positive.items
  pub negative : AreIdsOf k (negation l) s.negative.items

-- the id has a clause that holds a literal and not its negation
pub record IsParent (N : Slots) (l : Literal) (c : ℕ) : Type 0 where
  pub clause : Clause
  pub there : slot N c ≡ Some clause
  pub held : IsIn l clause
  pub plain : IsIn (negation l) clause → ⊥

abbrev pub AreParents : Slots → Literal → List ℕ → Type 0
AreParents N l ids = (c : ℕ) → IsIn c ids → IsParent N l c
