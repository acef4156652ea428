use Rattle.q_reduce.specs.Learned.{IsFitFor}
use Rattle.q_guides.proofs.cutting.collect_from.Given as goal

abbrev pub invariant-loop-l : goal.invariant-loop-l
invariant-loop-l l = IsFitFor l.kernel l.search
