-- Clauses as sets of literals, and the parts of a matrix by a literal; beside each relation the program that decides it.
use Rattle.std.specs.Prelude.{ℕ, ◌-◌, Bool, true, false, cond, ◌&&◌, ◌||◌, eqb, [], ◌∷◌}
use Rattle.q_logic.specs.Literals.{Literal, negation, literal_eq}
use Rattle.q_logic.specs.Formulas.{Clause, Matrix, IsIn}
use Rattle.q_logic.specs.Pivots.{without}
use Rattle.q_logic.specs.Clauses.{insert}

-- each literal of C is in D
abbrev pub IsSubset : Clause → Clause → Type 0
IsSubset C D = (k : Literal) → IsIn k C → IsIn k D

-- the literal is in the clause
abbrev pub has : Literal → Clause → Bool
has l [] = false
has l (k ∷ C) = literal_eq k l || has l C

-- the clause holds a literal and its negation
abbrev pub IsTautology : Clause → Type 0
IsTautology C = (k : Literal) × IsIn k C × IsIn (negation k) C

abbrev pub is_tautology : Clause → Bool
is_tautology [] = false
is_tautology (k ∷ C) = has (negation k) C || is_tautology C

-- some clause holds the literal
abbrev pub OccursIn : Literal → Matrix → Type 0
OccursIn l X = (D : Clause) × IsIn D X × IsIn l D

-- m is at most n
abbrev pub at_most : ℕ → ℕ → Bool
at_most m n = eqb (m - n) 0

-- both sets together, in literal order
abbrev pub union : Clause → Clause → Clause
union [] D = D
union (k ∷ C) D = insert k (union C D)

-- the clauses that hold the literal
abbrev pub with_literal : Literal → Matrix → Matrix
with_literal l [] = []
with_literal l (D ∷ X) = cond (has l D) (D ∷ with_literal l X) (with_literal l X)

-- the clauses that do not hold the literal
abbrev pub without_literal : Literal → Matrix → Matrix
without_literal l [] = []
without_literal l (D ∷ X) = cond (has l D) (without_literal l X) (D ∷ without_literal l X)

-- the literal goes from all clauses
abbrev pub each_without : Literal → Matrix → Matrix
each_without l [] = []
each_without l (D ∷ X) = without l D ∷ each_without l X

-- the clause comes, unless it is a tautology
abbrev pub put_unless_tautology : Clause → Matrix → Matrix
put_unless_tautology R X = cond (is_tautology R) X (R ∷ X)

-- each literal of the first clause is in the second
abbrev pub all_in : Clause → Clause → Bool
all_in [] D = true
all_in (k ∷ C) D = has k D && all_in C D

-- some clause holds the literal
abbrev pub literal_occurs : Literal → Matrix → Bool
literal_occurs l [] = false
literal_occurs l (D ∷ X) = has l D || literal_occurs l X

-- the negation of a literal of O is in S
abbrev pub negated_in : Clause → Clause → Bool
negated_in [] S = false
negated_in (k ∷ O) S = has (negation k) S || negated_in O S

-- the literals of C that are not in S
abbrev pub missing : Clause → Clause → Clause
missing [] S = []
missing (k ∷ C) S = cond (has k S) (missing C S) (k ∷ missing C S)
