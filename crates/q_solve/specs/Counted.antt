-- The counts of a node's clauses, and the clauses of each literal.
use Rattle.std.specs.Prelude.{◌≡◌, ◌<◌, ◌≤◌, ℕ, Bool, true, false, cond, eqb, List, length}
use Rattle.q_logic.specs.Prelude.{Literal, Matrix, Prefix, PrenexFormula, nothing}
use Rattle.q_logic.specs.Prefixes.{is_bound, place}
use Rattle.q_logic.specs.declared.verdict.Standing.{Standing}
use Rattle.q_logic.specs.Decisions.{standing}
use Rattle.q_search.specs.Paths.{along, rest_of}
use Rattle.q_solve.specs.declared.counts.Count.{Count}
use Rattle.q_solve.specs.Counting.{row_at, clause_at, AreHolders, AreCounts}
use Rattle.q_solve.specs.declared.places.Known.{Known}
use Rattle.q_solve.specs.declared.sides.Sides.{Sides}

-- the rows of a sign
abbrev pub side : Sides → Bool → List (List ℕ)
side s negative = cond negative s.negative s.positive

-- the row of a literal
abbrev pub row_of : Prefix → Sides → Literal → List ℕ
row_of P s k = row_at (side s k.negative) (place P k.var)

-- each literal's row has its clauses
abbrev pub AreHeld : PrenexFormula → Sides → Type 0
AreHeld F s = (k : Literal) → is_bound F.prefix k.var ≡ true → AreHolders F.matrix k (row_of F.prefix s k)

abbrev pub AreSmall : Matrix → Type 0
AreSmall X = (i : ℕ) → length (clause_at X i) < 18446744073709551616

-- the same of a variable's two literals, others as before
abbrev pub turned : ℕ → Known → (Literal → Standing) → Literal → Standing
turned x s g k = cond (eqb k.var x) (cond k.negative s.negative s.positive) (g k)

-- the counts by what is known of literals, and what is known of the variable at a place
pub record IsAt (s : Sides) (row : List Count) (at' : ℕ) (from : Known) : Type 0 where
  pub formula : PrenexFormula
  pub known : Literal → Standing
  pub variable : ℕ
  pub bound : is_bound formula.prefix variable ≡ true
  pub stands : place formula.prefix variable ≡ at'
  pub held : AreHeld formula s
  pub small : AreSmall formula.matrix
  pub counted : AreCounts formula.matrix known row
  pub positive : known (record { var = variable; negative = false }) ≡ from.positive
  pub negative : known (record { var = variable; negative = true }) ≡ from.negative

-- what holds of each node
pub record IsCounted (F : PrenexFormula) (s : Sides) (row : List Count) (path : List Bool) : Type 0 where
  pub held : AreHeld F s
  pub small : AreSmall F.matrix
  pub counted : AreCounts F.matrix (standing (rest_of F.prefix path) (along F.prefix path nothing)) row
  pub within : length path ≤ length F.prefix
