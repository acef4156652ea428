use Rattle.std.proofs.Common.{arith}
use Rattle.q_rule.proofs.OrderedClauses.{least-from}
use Rattle.q_rule.proofs.places.skip_to.Goals as goal

pub returns-then-index-clause-least : goal.returns-then-index-clause-least
returns-then-index-clause-least c = least-from c.args.d.now c.loop-at.at c.index-d-at.result c.args.k c.requires c.loop-at-test.true c.index-d-at.is (omega (arith, c.index.ensures, c.index-in-loop-at.ensures, c.if-index.true))
