use Rattle.q_eliminate.proofs.EliminateSearch.{ArePassed}
use Rattle.q_eliminate.proofs.find.find_from.Given as goal

abbrev pub invariant-loop-x : goal.invariant-loop-x
invariant-loop-x l = ArePassed l.bounds l.kernel l.fn.from l.x
