use Rattle.q_resolve.specs.Judged.{entries_of}
use Rattle.q_resolve.specs.Derived.{IsStood}
use Rattle.q_resolve.proofs.judging.judge_cone.Given as goal

abbrev pub invariant-loop-n : goal.invariant-loop-n
invariant-loop-n l = IsStood l.owner l.prefix l.formula.matrix (entries_of l.trace.lines) l.n l.desk.away.drops l.desk.said
