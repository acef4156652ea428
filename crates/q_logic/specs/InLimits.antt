-- A formula within limits: its greatest variable, its number of clauses and its number of literals.
use Rattle.std.specs.Prelude.{◌≤◌, ℕ, ◌+◌, ◌-◌, Bool, ◌&&◌, [], ◌∷◌, length}
use Rattle.q_logic.specs.declared.limits.Limits.{Limits}
use Rattle.q_logic.specs.Formulas.{Prefix, PrenexFormula}
use Rattle.q_logic.specs.Steps.{literals_in}
use Rattle.q_logic.specs.Sets.{at_most}

abbrev pub larger_of : ℕ → ℕ → ℕ
larger_of m n = m + (n - m)

-- the greatest variable, 0 if there is none
abbrev pub greatest : Prefix → ℕ
greatest [] = 0
greatest (b ∷ P) = larger_of b.var (greatest P)

pub record IsInLimits (m : Limits) (F : PrenexFormula) : Type 0 where
  pub vars : greatest F.prefix ≤ m.vars
  pub clauses : length F.matrix ≤ m.clauses
  pub lits : literals_in F.matrix ≤ m.lits

abbrev pub is_in_limits : Limits → PrenexFormula → Bool
is_in_limits m F = at_most (greatest F.prefix) m.vars &&
    (at_most (length F.matrix) m.clauses && at_most (literals_in F.matrix) m.lits)
