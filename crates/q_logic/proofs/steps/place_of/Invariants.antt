use Rattle.std.proofs.Common.{◌-◌, length, drop}
use Rattle.q_logic.specs.Prelude.{IsIn}
use Rattle.q_logic.proofs.steps.place_of.Given as goal

abbrev pub invariant-loop-lit : goal.invariant-loop-lit
invariant-loop-lit l = IsIn l.lit (drop l.at l.clause)

abbrev pub decreases-loop-lit : goal.decreases-loop-lit
decreases-loop-lit l = length l.clause - l.at
