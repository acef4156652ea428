use Rattle.q_subsume.proofs.SubsumeSearch.{ArePassed}
use Rattle.q_subsume.proofs.find.find_before.Given as goal

abbrev pub invariant-loop-c : goal.invariant-loop-c
invariant-loop-c l = ArePassed l.kernel 0 l.from l.c
