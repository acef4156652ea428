use Rattle.q_judge.proofs.ledger.Ledger.resolves.Goals as goal

pub returns-clause-exact : goal.returns-clause-exact
returns-clause-exact c = rw (← c.self.view_is) c.resolves.ensures.exact
