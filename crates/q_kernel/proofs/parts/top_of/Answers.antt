use Rattle.std.proofs.Common.{sym, ◌∙◌, arith}
use Rattle.q_logic.proofs.Common.{is_bound-greatest}
use Rattle.q_kernel.proofs.PrefixWalks.{top-lower}
use Rattle.q_kernel.proofs.parts.top_of.Goals as goal

pub loop-top-preserved : goal.loop-top-preserved
loop-top-preserved c = top-lower c.args.prefix.now.bounds c.loop-top.top c.loop-top.invariant (omega (arith, c.loop-top-test.true)) (sym c.contains.ensures ∙ c.if-not-contains.true)

pub returns-else-not-contains : goal.returns-else-not-contains
returns-else-not-contains c =
    let l = is_bound-greatest c.args.prefix.now.bounds c.loop-top.top (sym c.contains.ensures ∙ c.if-not-contains.false) in
    omega (arith, c.loop-top.invariant)
