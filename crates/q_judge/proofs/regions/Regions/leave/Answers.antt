use Rattle.q_judge.proofs.regions.Regions.leave.Goals as goal
use Rattle.q_judge.proofs.regions.Regions.leave.Goals.{in-Some, in_default}

pub returns-in-Some-after : goal.returns-in-Some-after
returns-in-Some-after c X all = c.pass_on-in-Some-after.ensures X (elim c.match-before.branch [
  | in-Some w ↦ rw w.self-is (w.pass_on.ensures X all)
  | in_default w ↦ rw w.self-is all
])
