use Rattle.std.proofs.Common.{take}
use Rattle.q_expand.specs.Tracks.{HasTaken}
use Rattle.q_expand.specs.Steps.{each_with, unlink_steps}
use Rattle.q_expand.proofs.changing.unlink_all.Given as goal

abbrev pub invariant-loop-i : goal.invariant-loop-i
invariant-loop-i l = record { taken : HasTaken l.fn.kernel l.kernel (each_with (unlink_steps l.u.var) (take l.i l.order) l.first) }
