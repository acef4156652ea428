use Rattle.q_resolve.specs.Judged.{entries_of}
use Rattle.q_resolve.proofs.Coned.{IsMarkedDown}
use Rattle.q_resolve.proofs.cone.cone_of.Given as goal

abbrev pub invariant-loop-back : goal.invariant-loop-back
invariant-loop-back l = IsMarkedDown (entries_of l.trace.lines) l.end l.back l.marks.items
