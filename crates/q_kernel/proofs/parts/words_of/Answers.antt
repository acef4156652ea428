use Rattle.std.proofs.Common.{arith}
use Rattle.std.proofs.lemmas.Grind.{common_steps}
use Rattle.q_kernel.proofs.PrefixWalks.{literals-next}
use Rattle.q_kernel.proofs.parts.words_of.Goals as goal

pub loop-at-preserved : goal.loop-at-preserved
loop-at-preserved c =
    let n = literals-next c.args.formula.now.matrix c.loop-at.at c.clause.result.now c.clause.ensures.value in
    grind (arith, common_steps, c.loop-at.invariant)
