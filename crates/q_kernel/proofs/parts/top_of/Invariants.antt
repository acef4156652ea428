use Rattle.std.proofs.Common.{◌≤◌}
use Rattle.q_logic.specs.Prelude.{greatest}
use Rattle.q_kernel.proofs.parts.top_of.Given as goal

abbrev pub invariant-loop-top : goal.invariant-loop-top
invariant-loop-top l = greatest l.prefix.bounds ≤ l.top

abbrev pub decreases-loop-top : goal.decreases-loop-top
decreases-loop-top l = l.top
