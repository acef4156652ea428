use Rattle.std.proofs.Common.{inl, inr, rules}
use Rattle.q_logic.proofs.Common.{item-in}
use Rattle.q_reduce.specs.Paths.{IsNear}
use Rattle.q_reduce.proofs.sides.put_around.Goals as goal

pub loop-at-init : goal.loop-at-init
loop-at-init c y m = IsNear.among y m

pub loop-at-preserved : goal.loop-at-preserved
loop-at-preserved c y m = elim (c.in_ok-put_beside.ensures y m) [
  | inl a ↦ c.loop-at.invariant y a
  | inr b ↦ IsNear.beside c.index-c.result.now y b.0 b.1 (c.loop-at.invariant c.index-c.result.now (item-in c.loop-at.list.items c.loop-at.at c.index-c.result.now (search rules) c.index-c.ensures))
]
