use Rattle.std.proofs.Common.{◌≡◌, ◌≤◌, take}
use Rattle.q_blocked.specs.Plans.{words_of}
use Rattle.q_blocked.proofs.plan.Plan.size.Given as goal

abbrev pub invariant-loop-stage : goal.invariant-loop-stage
invariant-loop-stage l = record {
  words : l.words ≡ words_of (take l.stage-index l.self.stages.items);
  most : l.words ≤ 1073741824;
}
