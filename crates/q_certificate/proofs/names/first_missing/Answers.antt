use Rattle.std.proofs.Common.{sym, ◌∙◌}
use Rattle.q_certificate.proofs.VariableTables.{missing-skip}
use Rattle.q_certificate.proofs.names.first_missing.Goals as goal

pub loop-i-preserved : goal.loop-i-preserved
loop-i-preserved c d h = c.loop-i.invariant d h ∙ missing-skip c.args.prefix.now d c.loop-i.i c.loop-i-test.true (sym (c.misses.ensures d h) ∙ c.if-misses.false)
