use Rattle.q_logic.proofs.Common.{item-in}
use Rattle.q_reduce.proofs.forests.connect.Goals as goal

pub tells-requires-clause-right : goal.tells-requires-clause-right
tells-requires-clause-right c = c.requires.right c.forest-item.result (item-in c.args.forests.now c.loop-forest.forest-index c.forest-item.result c.loop-forest-test.true c.forest-item.is)
