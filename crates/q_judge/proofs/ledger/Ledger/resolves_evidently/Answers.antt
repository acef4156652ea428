use Rattle.q_judge.proofs.ledger.Ledger.resolves_evidently.Goals as goal

pub returns-clause-resolved : goal.returns-clause-resolved
returns-clause-resolved c = rw (← c.self.view_is) (rw c.new-others.ensures at c.resolves_evidently.ensures)
