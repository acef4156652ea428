use Rattle.std.proofs.Common.{◌≤◌, ◌-◌, length, arith}
use Rattle.q_encode.proofs.SumBounds.{greatest-nothing, greatest-before}
use Rattle.q_encode.proofs.sums.greatest.Goals as goal

pub loop-at-init : goal.loop-at-init
loop-at-init c = record { bound = omega arith; value = greatest-nothing c.args.prefix.now _ (omega arith) }

pub loop-at-preserved : goal.loop-at-preserved
loop-at-preserved c =
    let b : c.loop-at.at ≤ length c.args.prefix.now = c.loop-at.invariant.bound in
    record {
      bound = omega arith;
      value = greatest-before c.args.prefix.now (c.loop-at.at - 1) c.loop-at.at _ _ (omega arith) (omega arith) (omega arith) c.loop-at.invariant.value;
    }
