use Rattle.q_encode.proofs.MadeRows.{selectors-more}
use Rattle.q_encode.proofs.skolem.selectors.Goals as goal

pub loop-at-preserved : goal.loop-at-preserved
loop-at-preserved c =
    selectors-more c.args.top c.args.gates c.loop-at.at c.loop-at.row.items c.push.new.self.items c.selector_lit.result c.loop-at.invariant
    c.selector_lit.ensures c.in_ok-push.ensures.items
