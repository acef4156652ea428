use Rattle.std.proofs.Common.{◌≡◌, max, drop, take}
use Rattle.q_dimacs.specs.Building.{greatest}
use Rattle.q_cnf.specs.Cnf.{AreVariables}
use Rattle.q_cnf.proofs.writing.greatest.Given as goal

abbrev pub invariant-loop-at : goal.invariant-loop-at
invariant-loop-at l = record {
  value : max l.greatest (greatest (drop l.at l.clauses)) ≡ greatest l.clauses;
  variables : AreVariables (take l.at l.clauses);
}
