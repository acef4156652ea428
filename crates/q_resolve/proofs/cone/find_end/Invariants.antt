use Rattle.q_resolve.specs.Judged.{entries_of, IsEndUpto}
use Rattle.q_resolve.proofs.cone.find_end.Given as goal

abbrev pub invariant-loop-n : goal.invariant-loop-n
invariant-loop-n l = IsEndUpto (entries_of l.trace.lines) l.n l.end
