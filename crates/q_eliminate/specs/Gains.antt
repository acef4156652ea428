-- What resolvents bring.
use Rattle.std.specs.Prelude.{◌≡◌, ◌≤◌, ◌<◌, ◌+◌, ℕ, cond, [], ◌∷◌, length, Option, None, Some}
use Rattle.q_logic.specs.Prelude.{Literal, Clause, Matrix, without, size_of, literals_in, union, missing, negated_in, put_unless_tautology}
use Rattle.q_eliminate.specs.declared.counting.Gain.{Gain}

abbrev pub no_gain : Gain
no_gain = record { clauses = 0; lits = 0 }

-- the unions of a clause with each of others without a literal, but the tautologies
abbrev pub joined : Clause → Literal → Matrix → Matrix
joined A m [] = []
joined A m (D ∷ Y) = put_unless_tautology (union A (without m D)) (joined A m Y)

-- the number of literals of two clauses together, where no literal of one is negated in the other
abbrev pub joined_length : Clause → Clause → Option ℕ
joined_length A B = cond (negated_in B A) None (Some (length A + length (missing B A)))

-- some clauses have come to a gain, and it is within a bound; or they pass it
pub record IsGain (from : Gain) (V : Matrix) (bound : ℕ) (o : Option Gain) : Type 0 where
  pub clauses : (g : Gain) → o ≡ Some g → g.clauses ≡ from.clauses + length V
  pub lits : (g : Gain) → o ≡ Some g → g.lits ≡ from.lits + literals_in V
  pub within : (g : Gain) → o ≡ Some g → g.clauses + g.lits ≤ bound
  pub passed : o ≡ None → bound < from.clauses + from.lits + size_of V
