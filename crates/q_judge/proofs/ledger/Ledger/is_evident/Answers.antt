use Rattle.q_judge.proofs.ledger.Ledger.is_evident.Goals as goal

pub returns-clause-pivot : goal.returns-clause-pivot
returns-clause-pivot c = rw (← c.self.view_is) (rw c.new-others.ensures at c.is_evident_first.ensures)
