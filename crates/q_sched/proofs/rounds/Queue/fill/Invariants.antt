use Rattle.std.proofs.Common.{◌-◌}
use Rattle.q_sched.proofs.rounds.Queue.fill.Given as goal

abbrev pub decreases-loop-item : goal.decreases-loop-item
decreases-loop-item g l = 4294967296 - l.from
