use Rattle.q_judge.proofs.ledger.Ledger.warrant.Goals as goal

pub returns-clause-exact : goal.returns-clause-exact
returns-clause-exact c = rw (← c.self.view_is) c.warrant_of.ensures.exact
