use Rattle.q_logic.specs.Prelude.{IsIn}
use Rattle.q_subsume.proofs.find.rarest.Given as goal

abbrev pub invariant-loop-k : goal.invariant-loop-k
invariant-loop-k l = IsIn l.best l.clause
