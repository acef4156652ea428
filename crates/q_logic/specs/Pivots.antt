-- Outer clauses and pivots: the QRAT properties for existential and universal literals. (Heule, Seidl, Biere,
-- "A Unified Proof System for QBF Preprocessing", IJCAR 2014.)
use Rattle.std.specs.Prelude.{◌≡◌, Bool, true, cond, not, ◌&&◌, List, [], ◌∷◌, ◌++◌}
use Rattle.q_logic.specs.Literals.{Literal, negation, literal_eq}
use Rattle.q_logic.specs.Formulas.{Clause, Matrix, Prefix, IsIn}
use Rattle.q_logic.specs.Prefixes.{is_existential, is_universal, outer_or_same}
use Rattle.q_logic.specs.Propagation.{Implied}

-- whether k is in the outer clause on m of a clause that holds it
abbrev pub keeps : Prefix → Literal → Literal → Bool
keeps P m k = not (literal_eq k m) && outer_or_same P k.var m.var

-- the outer clause of D on m: the literals other than m whose variable is outer or same to the one of m
abbrev pub outer : Prefix → Literal → Clause → Clause
outer P m [] = []
outer P m (k ∷ D) = cond (keeps P m k) (k ∷ outer P m D) (outer P m D)

-- beside the clauses X the clause C has the pivot l: joined with the outer clause of any D that holds the
-- negation of l, it is implied
pub record ExistsPivot (P : Prefix) (X : Matrix) (C : Clause) (l : Literal) : Type 0 where
  pub existential_pivot : is_existential P l.var ≡ true
  pub in_clause : IsIn l C
  pub implied : (D : Clause) → IsIn D X → IsIn (negation l) D →
      Implied X (C ++ outer P (negation l) D)

-- the clause with no copy of the literal l
abbrev pub without : Literal → Clause → Clause
without l [] = []
without l (k ∷ C) = cond (literal_eq k l) (without l C) (k ∷ without l C)

-- the same for a universal l, which may then leave the clause
pub record ForallPivot (P : Prefix) (X : Matrix) (C : Clause) (l : Literal) : Type 0 where
  pub universal_pivot : is_universal P l.var ≡ true
  pub in_clause : IsIn l C
  pub not_negated : IsIn (negation l) C → ⊥
  pub implied : (D : Clause) → IsIn D X → IsIn (negation l) D →
      Implied X (without l C ++ outer P (negation l) D)
