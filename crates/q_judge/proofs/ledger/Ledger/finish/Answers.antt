use Rattle.q_judge.proofs.ledger.Ledger.finish.Goals as goal

pub returns-clause-refused : goal.returns-clause-refused
returns-clause-refused c = rw (← c.self.view_is) c.compare.ensures.refused
