use Rattle.q_validate.proofs.NodeValues.{open-inner}
use Rattle.q_validate.proofs.node.NodePosition.verdict.Goals as goal

pub returns-clause-open : goal.returns-clause-open
returns-clause-open c = open-inner c.args.self.now c.in_ok-verdict.verdict c.in_ok-verdict.ensures.value
