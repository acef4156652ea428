-- Unit propagation, and what is implied by it ("asymmetric tautology": Heule, Seidl, Biere, "A Unified Proof
-- System for QBF Preprocessing", IJCAR 2014).
use Rattle.std.specs.Prelude.{◌≢◌, List, [], ◌∷◌, ◌⊎◌}
use Rattle.q_logic.specs.Literals.{Literal, negation}
use Rattle.q_logic.specs.Formulas.{Clause, Matrix, IsIn}

-- a chain from the literals of start: each further literal is the one of a clause whose other literals are
-- refuted; the last one stands in front
pub data Chain (X : Matrix) (start : List Literal) : List Literal → Type 0 where
  begin : Chain X start start
  more : {K : List Literal} → (k : Literal) → (D : Clause) → IsIn D X → IsIn k D →
      ((j : Literal) → IsIn j D → j ≢ k → IsIn (negation j) K) → Chain X start K →
      Chain X start (k ∷ K)

-- a literal and its negation, or a clause that is refuted as a whole
abbrev pub Conflicts : Matrix → List Literal → Type 0
Conflicts X K =
    ((k : Literal) × IsIn k K × IsIn (negation k) K) ⊎
    ((D : Clause) × IsIn D X × ((j : Literal) → IsIn j D → IsIn (negation j) K))

-- the negation of each literal
abbrev pub negations : Clause → List Literal
negations [] = []
negations (k ∷ C) = negation k ∷ negations C

-- from the negations of the literals of S propagation over X runs into a conflict
abbrev pub Implied : Matrix → Clause → Type 0
Implied X S = (K : List Literal) × Chain X (negations S) K × Conflicts X K

-- K has the start and each literal that propagation gives from K
pub record IsSaturated (X : Matrix) (start K : List Literal) : Type 0 where
  pub has_start : (k : Literal) → IsIn k start → IsIn k K
  pub closed : (D : Clause) (k : Literal) → IsIn D X → IsIn k D →
      ((j : Literal) → IsIn j D → j ≢ k → IsIn (negation j) K) → IsIn k K
