use Rattle.q_logic.specs.Prelude.{size_of, with_literal, live}
use Rattle.q_kernel.specs.Prelude.{slots}
use Rattle.q_expand.proofs.LiteralLosses.{IsLosing}
use Rattle.q_expand.proofs.dropping.drop_all.Given as goal

abbrev pub invariant-loop-place : goal.invariant-loop-place
invariant-loop-place l = IsLosing l.lit l.fn.kernel l.kernel

abbrev pub decreases-loop-place : goal.decreases-loop-place
decreases-loop-place l = size_of (with_literal l.lit (live (slots l.kernel)))
