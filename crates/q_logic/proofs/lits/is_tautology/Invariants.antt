use Rattle.q_logic.proofs.LiteralNeighbours.{AreOther}
use Rattle.q_logic.proofs.lits.is_tautology.Given as goal

abbrev pub invariant-loop-i : goal.invariant-loop-i
invariant-loop-i l = AreOther l.clause l.i
