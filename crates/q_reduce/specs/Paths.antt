-- Paths between clauses, by literals of opposite sign.
use Rattle.std.specs.Prelude.{◌≡◌, ℕ, true, List, Some}
use Rattle.q_logic.specs.Prelude.{Literal, negation, Clause, Prefix, IsIn, is_universal, Slots, slot, others, Reducible, inner_existential}

-- a universal literal of the clause of an id
abbrev pub HoldsUniversal : Prefix → Slots → ℕ → Literal → Type 0
HoldsUniversal P N c u = (C : Clause) × (slot N c ≡ Some C) × IsIn u C × (is_universal P u.var ≡ true)

-- the clause of one id holds an existential literal that is inner to a variable, and that of the other its negation
pub record AreJoined (P : Prefix) (N : Slots) (v c d : ℕ) : Type 0 where
  pub left : Clause
  pub right : Clause
  pub left_at : slot N c ≡ Some left
  pub right_at : slot N d ≡ Some right
  pub lit : Literal
  pub in_left : IsIn lit left
  pub in_right : IsIn (negation lit) right
  pub inner : inner_existential P v lit.var ≡ true

-- the clause of an id does not hold the literal
abbrev pub Lacks : Slots → ℕ → Literal → Type 0
Lacks N c u = (C : Clause) → slot N c ≡ Some C → IsIn u C → ⊥

-- a path leads from a clause to one with the negation of u, by clauses that do not hold u
pub data Leads (P : Prefix) (N : Slots) (u : Literal) : ℕ → Type 0 where
  there : (d : ℕ) → (D : Clause) → slot N d ≡ Some D → IsIn (negation u) D → Leads P N u d
  on : (d e : ℕ) → AreJoined P N u.var d e → Lacks N e u → Leads P N u e → Leads P N u d

-- a clause is one of some, or is met on a path from one of them, by clauses that do not hold u
pub data IsNear (P : Prefix) (N : Slots) (u : Literal) (xs : List ℕ) : ℕ → Type 0 where
  among : (c : ℕ) → IsIn c xs → IsNear P N u xs c
  beside : (c d : ℕ) → AreJoined P N u.var c d → Lacks N d u → IsNear P N u xs c → IsNear P N u xs d

-- the literal may not leave the clause of an id
abbrev pub Stays : Prefix → Slots → ℕ → Literal → Type 0
Stays P N c u = (C : Clause) → slot N c ≡ Some C → Reducible P (others c N) C u → ⊥

-- clauses between which paths are looked for: what leads on from one of the first leads on from c, and from one of the
-- last a path leads to the negation of u
pub record AreSides (P : Prefix) (N : Slots) (c : ℕ) (u : Literal) (starts ends : List ℕ) : Type 0 where
  pub from_start : (s : ℕ) → IsIn s starts → Leads P N u s → Leads P N u c
  pub from_end : (e : ℕ) → IsIn e ends → Leads P N u e × Lacks N e u
