use Rattle.std.proofs.Common.{◌+◌, arith}
use Rattle.q_gen.proofs.GeneratedClauses.{block-push}
use Rattle.q_gen.proofs.prefix.put_block.Goals as goal

pub loop-var-preserved : goal.loop-var-preserved
loop-var-preserved c = block-push c.args.quant c.loop-var.var (c.args.first + c.args.count) c.loop-var.prefix.items _ _ (omega arith) c.loop-var.invariant c.in_ok-push.ensures.items
