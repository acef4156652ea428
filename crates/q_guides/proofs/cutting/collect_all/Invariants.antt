use Rattle.q_reduce.specs.Learned.{IsFitFor}
use Rattle.q_guides.proofs.cutting.collect_all.Given as goal

abbrev pub invariant-loop-c : goal.invariant-loop-c
invariant-loop-c g l = IsFitFor l.kernel l.search
