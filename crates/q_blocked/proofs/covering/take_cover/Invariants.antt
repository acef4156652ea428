use Rattle.std.proofs.Common.{◌≤◌, length, vec_capacity}
use Rattle.q_blocked.proofs.CoverStages.{IsStaged}
use Rattle.q_blocked.proofs.covering.take_cover.Given as goal

abbrev pub invariant-loop-stage : goal.invariant-loop-stage
invariant-loop-stage l = record {
  staged : IsStaged l.fn.kernel l.kernel l.fn.c l.id l.plan l.stage-index;
  capacity : length l.plan.lits.items ≤ vec_capacity l.larger;
}
