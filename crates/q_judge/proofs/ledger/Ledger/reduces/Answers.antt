use Rattle.q_judge.proofs.RegionSeparation.{all-left}
use Rattle.q_judge.proofs.ledger.Ledger.reduces.Goals as goal

pub new-others-requires : goal.new-others-requires
new-others-requires c = c.self.invariant.0.formula.closed

pub reduces-requires-clause-within : goal.reduces-requires-clause-within
reduces-requires-clause-within c = rw c.new-others.ensures (rw (← c.self.view_is) at c.requires.within)

pub reduces-requires-clause-universal : goal.reduces-requires-clause-universal
reduces-requires-clause-universal c = rw c.new-others.ensures (rw (← c.self.view_is) at c.requires.universal)

pub reduces-requires-clause-regions : goal.reduces-requires-clause-regions
reduces-requires-clause-regions c =
    let i = c.self.inside in
    rw c.new-others.ensures (all-left i.scope i.recent i.store c.args.at c.self.invariant.1)

pub invariant_of-self : goal.invariant_of-self
invariant_of-self c = c.self.invariant

pub returns-clause-exact : goal.returns-clause-exact
returns-clause-exact c = rw (← c.self.view_is) (rw c.new-others.ensures at c.reduces.ensures)
