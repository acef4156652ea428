use Rattle.q_judge.proofs.SlotCollections.{held-in}
use Rattle.q_judge.proofs.ledger.Ledger.join.Goals as goal

pub push_outer-requires-clause-within : goal.push_outer-requires-clause-within
push_outer-requires-clause-within c =
    c.self.invariant.0.formula.closed c.in-Some.clause.now (held-in c.self.inside.store c.args.at c.in-Some.clause.now c.in-Some.ensures)
