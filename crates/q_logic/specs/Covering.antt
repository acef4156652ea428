-- Covered clauses: the literals of a clause may grow by hidden and by covered literals until the clause is a
-- tautology or blocked. (The conditions on the prefix are this project's own.)
use Rattle.std.specs.Prelude.{◌≡◌, ◌≢◌, ◌↔◌, ℕ, zero, suc, ◌+◌, Bool, true, false, cond, not, ◌&&◌, ◌||◌, [], ◌∷◌, ◌⊎◌}
use Rattle.q_logic.specs.Clauses.{insert}
use Rattle.q_logic.specs.Literals.{Literal, negation}
use Rattle.q_logic.specs.Formulas.{Clause, Matrix, Prefix, IsIn}
use Rattle.q_logic.specs.Prefixes.{is_existential}
use Rattle.q_logic.specs.Pivots.{outer}
use Rattle.q_logic.specs.Sets.{has, IsTautology, is_tautology, union, missing}
use Rattle.q_logic.specs.Blocking.{Clashes, AllClash, clashes, all_clash}
use Rattle.q_logic.specs.Measure.{size_of}

-- a clause holds the negation of a new literal, and its other literals are in S
pub record Hidden (X : Matrix) (S T : Clause) : Type 0 where
  pub new : Literal
  pub by : Clause
  pub there : IsIn by X
  pub negated : IsIn (negation new) by
  pub others_in : (j : Literal) → IsIn j by → j ≢ negation new → IsIn j S
  pub is_new : IsIn new S → ⊥
  pub grown : (k : Literal) → IsIn k T ↔ ((k ≡ new) ⊎ IsIn k S)

-- k is in the outer clause of each clause that holds not l and does not clash with S
abbrev pub InEach : Prefix → Matrix → Literal → Clause → Literal → Type 0
InEach P X l S k = (D : Clause) → IsIn D X → IsIn (negation l) D → (Clashes P l S D → ⊥) →
    IsIn k (outer P (negation l) D)

-- all such literals come into S, for an existential literal of S
pub record Covered (P : Prefix) (X : Matrix) (S T : Clause) : Type 0 where
  pub on : Literal
  pub existential : is_existential P on.var ≡ true
  pub there : IsIn on S
  pub some : (D : Clause) × IsIn D X × IsIn (negation on) D × (Clashes P on S D → ⊥)
  pub new : (k : Literal) × InEach P X on S k × (IsIn k S → ⊥)
  pub grown : (k : Literal) → IsIn k T ↔ (InEach P X on S k ⊎ IsIn k S)

-- S may grow to T over the other clauses X
abbrev pub Grows : Prefix → Matrix → Clause → Clause → Type 0
Grows P X S T = Hidden X S T ⊎ Covered P X S T

-- S is a tautology or blocked
abbrev pub Ends : Prefix → Matrix → Clause → Type 0
Ends P X S = IsTautology S ⊎
    ((l : Literal) × IsIn l S × (is_existential P l.var ≡ true) × AllClash P X l S)

-- some growth of S ends
pub data Covers (P : Prefix) (X : Matrix) : Clause → Type 0 where
  ended : (S : Clause) → Ends P X S → Covers P X S
  grown : {T : Clause} → (S : Clause) → Grows P X S T → Covers P X T → Covers P X S

-- The plain program: grow by all that is possible, turn by turn.
abbrev pub negations_of : Clause → Clause
negations_of [] = []
negations_of (k ∷ C) = insert (negation k) (negations_of C)

abbrev pub hidden_of : Clause → Clause → Clause
hidden_of [] D = negations_of D
hidden_of (j ∷ []) D = negation j ∷ []
hidden_of (j ∷ i ∷ M) D = []

abbrev pub hidden_once : Matrix → Clause → Clause
hidden_once [] S = S
hidden_once (D ∷ X) S = union (hidden_of (missing D S) D) (hidden_once X S)

abbrev pub open_clauses : Prefix → Matrix → Literal → Clause → Matrix
open_clauses P [] l S = []
open_clauses P (D ∷ X) l S =
    cond (has (negation l) D && not (clashes P l S D)) (D ∷ open_clauses P X l S) (open_clauses P X l S)

abbrev pub common : Prefix → Literal → Clause → Matrix → Clause
common P l O [] = O
common P l O (D ∷ X) = common P l (missing O (missing O (outer P (negation l) D))) X

abbrev pub covered_of : Prefix → Literal → Matrix → Clause
covered_of P l [] = []
covered_of P l (D ∷ X) = common P l (outer P (negation l) D) X

abbrev pub covered_once : Prefix → Matrix → Clause → Clause → Clause
covered_once P X S [] = S
covered_once P X S (l ∷ C) =
    union (cond (is_existential P l.var) (covered_of P l (open_clauses P X l S)) [])
    (covered_once P X S C)

abbrev pub grow_often : ℕ → Prefix → Matrix → Clause → Clause
grow_often zero P X S = S
grow_often (suc n) P X S =
    covered_once P X (hidden_once X (grow_often n P X S)) (hidden_once X (grow_often n P X S))

abbrev pub is_blocked : Prefix → Matrix → Clause → Clause → Bool
is_blocked P X S [] = false
is_blocked P X S (l ∷ C) = (is_existential P l.var && all_clash P X l S) || is_blocked P X S C

abbrev pub has_ended : Prefix → Matrix → Clause → Bool
has_ended P X S = is_tautology S || is_blocked P X S S

abbrev pub is_covered : Prefix → Matrix → Clause → Bool
is_covered P X C = has_ended P X (grow_often (size_of X + size_of X) P X C)
