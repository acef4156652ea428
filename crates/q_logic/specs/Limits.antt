-- The limits on formulas and files. (This project's own; the checker takes four times the clauses and
-- literals.)
use Rattle.std.specs.Prelude.{◌<◌, ◌≤◌, ◌^◌}
use Rattle.q_logic.specs.declared.limits.Limits.{Limits}

-- the limits of the program
abbrev pub standard : Limits
standard = record { vars = 16777215; clauses = 33554432; lits = 134217728; bytes = 1099511627776 }

-- limits whose sums stay far below what the code's numbers hold
pub record AreModerate (m : Limits) : Type 0 where
  pub vars : m.vars < 2 ^ 31
  pub clauses : m.clauses ≤ 2 ^ 60
  pub lits : m.lits ≤ 2 ^ 60
  pub bytes : m.bytes ≤ 2 ^ 62

-- limits that are no larger than others
pub record AreWithin (m n : Limits) : Type 0 where
  pub vars : m.vars ≤ n.vars
  pub clauses : m.clauses ≤ n.clauses
  pub lits : m.lits ≤ n.lits
  pub bytes : m.bytes ≤ n.bytes
