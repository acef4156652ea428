-- Reach and extended universal reduction. (This project's own form of the reduction by a dependency scheme.)
use Rattle.std.specs.Prelude.{◌≡◌, ℕ, true, false}
use Rattle.q_logic.specs.Literals.{Literal, negation}
use Rattle.q_logic.specs.Formulas.{Clause, Matrix, Prefix, IsIn}
use Rattle.q_logic.specs.Prefixes.{is_existential, is_universal, outer_or_same}

-- the clauses that are linked to C by existential variables inner to u
pub data ReachedByVariable (P : Prefix) (X : Matrix) (C : Clause) (u : ℕ) : Clause → Type 0 where
  first : ReachedByVariable P X C u C
  next : {D : Clause} → (E : Clause) → (j k : Literal) → IsIn j D → IsIn k E → j.var ≡ k.var →
      is_existential P j.var ≡ true → outer_or_same P j.var u ≡ false → IsIn E X →
      ReachedByVariable P X C u D → ReachedByVariable P X C u E

-- no linked clause holds the negation of l
pub record ReducibleByVariable (P : Prefix) (X : Matrix) (C : Clause) (l : Literal) : Type 0 where
  pub universal_literal : is_universal P l.var ≡ true
  pub in_clause : IsIn l C
  pub no_negation : (D : Clause) → ReachedByVariable P X C l.var D → IsIn (negation l) D → ⊥

-- the clauses that are linked to C by literals of opposite sign: each further clause does not hold l, and
-- holds the negation of an existential literal, inner to l, of the one before
pub data Reached (P : Prefix) (X : Matrix) (C : Clause) (l : Literal) : Clause → Type 0 where
  first : Reached P X C l C
  next : {D : Clause} → (E : Clause) → (k : Literal) → IsIn k D → IsIn (negation k) E →
      is_existential P k.var ≡ true → outer_or_same P k.var l.var ≡ false → IsIn E X →
      (IsIn l E → ⊥) → Reached P X C l D → Reached P X C l E

-- no linked clause holds the negation of l, so l may leave C
pub record Reducible (P : Prefix) (X : Matrix) (C : Clause) (l : Literal) : Type 0 where
  pub universal_literal : is_universal P l.var ≡ true
  pub in_clause : IsIn l C
  pub no_negation : (D : Clause) → Reached P X C l D → IsIn (negation l) D → ⊥
