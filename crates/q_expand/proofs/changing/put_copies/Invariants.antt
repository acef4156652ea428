use Rattle.std.proofs.Common.{◌≡◌, take}
use Rattle.q_kernel.specs.Prelude.{slots}
use Rattle.q_expand.specs.Tracks.{HasTaken}
use Rattle.q_expand.specs.Steps.{each_with, copy_step}
use Rattle.q_expand.proofs.changing.put_copies.Given as goal

abbrev pub invariant-loop-i : goal.invariant-loop-i
invariant-loop-i l = record { taken : HasTaken l.fn.kernel l.kernel (each_with copy_step (take l.i l.order) l.first); same : slots l.kernel ≡ slots l.fn.kernel }
