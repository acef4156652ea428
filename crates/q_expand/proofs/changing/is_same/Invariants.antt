use Rattle.q_expand.proofs.EqualClauses.{AreSame}
use Rattle.q_expand.proofs.changing.is_same.Given as goal

abbrev pub invariant-loop-i : goal.invariant-loop-i
invariant-loop-i l = AreSame l.one l.other l.i
