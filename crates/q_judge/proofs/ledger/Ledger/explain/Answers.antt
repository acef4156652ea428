use Rattle.q_judge.proofs.ledger.Ledger.explain.Goals as goal

pub returns-clause-exact : goal.returns-clause-exact
returns-clause-exact c = rw (← c.self.view_is) c.explain.ensures.exact

pub returns-clause-shown : goal.returns-clause-shown
returns-clause-shown c = rw (← c.self.view_is) c.explain.ensures.shown
