use Rattle.q_command.specs.Taken.{entries_of}
use Rattle.q_run_refute.proofs.NotedSteps.{IsWalked}
use Rattle.q_run_refute.proofs.reversing.reversals_of.Given as goal

abbrev pub invariant-loop-at : goal.invariant-loop-at
invariant-loop-at l = IsWalked l.from (entries_of l.taken) l.at l.trail
