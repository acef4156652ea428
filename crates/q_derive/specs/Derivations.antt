-- Resolution proofs of quantified formulas: term resolution for true ones, Q-resolution for false ones. (Giunchiglia,
-- Narizzano, Tacchella, "Clause/Term Resolution and Learning in the Evaluation of Quantified Boolean Formulas",
-- Journal of Artificial Intelligence Research 26, 2006.)
use Rattle.std.specs.Prelude.{◌≡◌, ℕ, ◌<◌, true, List, [], ◌⊎◌, slice_get, Some}
use Rattle.q_logic.specs.Literals.{Literal, negation}
use Rattle.q_logic.specs.Formulas.{Clause, Matrix, Prefix, IsIn, PrenexFormula}
use Rattle.q_logic.specs.Prefixes.{is_existential, place}
use Rattle.q_logic.specs.Truth.{Assignment, LiteralTrue}
use Rattle.q_logic.specs.Sets.{IsSubset, IsTautology}
use Rattle.q_logic.specs.Exchanging.{exchanged}

-- a set of literals, which is true where all of them are
abbrev pub Term : Type 0
Term = List Literal

-- each literal of the term is true
abbrev pub TermTrue : Assignment → Term → Type 0
TermTrue A T = (k : Literal) → IsIn k T → LiteralTrue A k

-- why a line stands: by itself; by two earlier lines, the first of which may hold the literal and the second its
-- negation; by an earlier line of which some literals are taken away
pub data Reason : Type 0 where
  leaf : Reason
  resolve : ℕ → ℕ → Literal → Reason
  reduce : ℕ → Reason

-- a line of a proof: a term, or a clause
pub record Line : Type 0 where
  pub literals : List Literal
  pub reason : Reason

-- the literals of an earlier line
abbrev pub IsBefore : List Line → ℕ → ℕ → List Literal → Type 0
IsBefore lines n i S = (line : Line) × (i < n) × (slice_get lines i ≡ Some line) × (line.literals ≡ S)

-- each literal of S but k is in T
abbrev pub IsRest : List Literal → Literal → List Literal → Type 0
IsRest S k T = (j : Literal) → IsIn j S → (j ≡ k) ⊎ IsIn j T

-- the literal of S may be taken away: its variable is an existential, S does not hold its negation, and each literal of T
-- stands before it in the prefix
pub record IsTaken (P : Prefix) (S : List Literal) (T : List Literal) (g : Literal) : Type 0 where
  pub owned : is_existential P g.var ≡ true
  pub alone : IsIn (negation g) S → ⊥
  pub behind : (k : Literal) → IsIn k T → place P k.var < place P g.var

-- each literal of S stays or may be taken away
abbrev pub IsReduced : Prefix → List Literal → List Literal → Type 0
IsReduced P S T = (g : Literal) → IsIn g S → IsIn g T ⊎ IsTaken P S T g

-- the line with number n, which holds T, stands by its reason
abbrev pub Follows : Prefix → (List Literal → Type 0) → List Line → ℕ → List Literal → Reason → Type 0
Follows P L lines n T leaf = L T
Follows P L lines n T (resolve i j k) =
    (S : List Literal) × (U : List Literal) × IsBefore lines n i S × IsBefore lines n j U ×
    IsRest S k T × IsRest U (negation k) T
Follows P L lines n T (reduce i) = (S : List Literal) × IsBefore lines n i S × IsReduced P S T

-- each line stands by its reason; L says which lines may stand by themselves
abbrev pub IsDerivation : Prefix → (List Literal → Type 0) → List Line → Type 0
IsDerivation P L lines =
    (n : ℕ) → (line : Line) → slice_get lines n ≡ Some line → Follows P L lines n line.literals line.reason

-- the same where any line may stand by itself
abbrev pub IsAnyDerivation : Prefix → List Line → Type 0
IsAnyDerivation P lines = IsDerivation P (λ T. Unit {0}) lines

-- some line has no literal
abbrev pub HasEmpty : List Line → Type 0
HasEmpty lines = (n : ℕ) × (line : Line) × (slice_get lines n ≡ Some line) × (line.literals ≡ [])

-- each clause that is no tautology holds a literal of the term
abbrev pub IsHitting : Matrix → List Literal → Type 0
IsHitting X T = (D : Clause) → IsIn D X → IsTautology D ⊎ ((k : Literal) × IsIn k D × IsIn k T)

-- the literals are those of a clause of the matrix, and maybe others
abbrev pub HoldsClause : Matrix → List Literal → Type 0
HoldsClause X T = (D : Clause) × IsIn D X × IsSubset D T

-- a proof by term resolution that the formula is true: the lines are terms
pub record IsTermProof (F : PrenexFormula) (lines : List Line) : Type 0 where
  pub follows : IsDerivation F.prefix (IsHitting F.matrix) lines
  pub ends : HasEmpty lines

-- a refutation by Q-resolution: the lines are clauses, and universals are taken away
pub record IsRefutation (F : PrenexFormula) (lines : List Line) : Type 0 where
  pub follows : IsDerivation (exchanged F.prefix) (HoldsClause F.matrix) lines
  pub ends : HasEmpty lines
