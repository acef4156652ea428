use Rattle.q_gen.proofs.GeneratedClauses.{AreDrawn}
use Rattle.q_gen.proofs.formula.generate.Given as goal

abbrev pub invariant-loop : goal.invariant-loop
invariant-loop l = AreDrawn l.seed l.size l.width l.counter l.words l.clauses
