use Rattle.q_solve.proofs.EnteredClauses.{IsLoaded}
use Rattle.q_solve.proofs.loading.load.Given as goal

abbrev pub invariant-loop-i : goal.invariant-loop-i
invariant-loop-i l = IsLoaded l.formula l.sides l.counts l.i
