use Rattle.q_judge.proofs.ledger.Ledger.learn.Goals as goal

pub new-whole-requires : goal.new-whole-requires
new-whole-requires c = c.self.invariant.0.formula.closed

pub learn-requires-clause-bound : goal.learn-requires-clause-bound
learn-requires-clause-bound c = rw c.new-whole.ensures (rw (← c.self.view_is) at c.requires)

pub learn-requires-clause-regions : goal.learn-requires-clause-regions
learn-requires-clause-regions c = rw c.new-whole.ensures c.self.invariant.1

pub invariant_of-self : goal.invariant_of-self
invariant_of-self c = (c.self.invariant.0, rw c.new-whole.ensures at c.learn.ensures, c.self.invariant.2)
