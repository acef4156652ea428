-- How large a miter may get: so many variables, clauses and literals at most.
use Rattle.std.specs.Prelude.{ℕ, ◌+◌, ◌*◌, ◌≤◌, length}
use Rattle.q_logic.specs.declared.limits.Limits.{Limits}
use Rattle.q_logic.specs.Prelude.{PrenexFormula, CertificateView, greatest, literals_in, standard}
use Rattle.q_encode.specs.declared.side.Side.{Side}
use Rattle.q_encode.specs.declared.side.Side.TheVariants.{Skolem, Herbrand}
use Rattle.q_encode.specs.declared.sums.Sums.{Sums}

abbrev pub sums_from : Side → ℕ → ℕ → ℕ → ℕ → Sums
sums_from Skolem top gates clauses lits = record {
  vars = top + gates + clauses + 1;
  clauses = 3 * gates + lits + 2;
  lits = 7 * gates + 2 * lits + clauses + 1;
}
sums_from Herbrand top gates clauses lits = record {
  vars = top + gates + 1;
  clauses = 3 * gates + clauses + 1;
  lits = 7 * gates + lits + 1;
}

-- of a formula, with so many gates
abbrev pub sums_of : Side → PrenexFormula → ℕ → Sums
sums_of side F gates = sums_from side (greatest F.prefix) gates (length F.matrix) (literals_in F.matrix)

pub record AreIn (m : Limits) (s : Sums) : Type 0 where
  pub vars : s.vars ≤ m.vars
  pub clauses : s.clauses ≤ m.clauses
  pub lits : s.lits ≤ m.lits

-- the miter of these circuits keeps the limits of the program
abbrev pub IsSmall : Side → PrenexFormula → CertificateView → Type 0
IsSmall side F c = AreIn standard (sums_of side F (length c.gates))
