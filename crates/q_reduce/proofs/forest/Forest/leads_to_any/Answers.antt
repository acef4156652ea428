use Rattle.q_logic.proofs.Common.{get_or-IsIn}
use Rattle.q_reduce.proofs.forest.Forest.leads_to_any.Goals as goal

pub returns-then-is_clear : goal.returns-then-is_clear
returns-then-is_clear c t = (_, get_or-IsIn c.args.ends.now c.loop-to.to-index 0 c.loop-to-test.true, c.is_clear.ensures c.if-is_clear.true)
