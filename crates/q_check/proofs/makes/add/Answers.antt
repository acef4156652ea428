use Rattle.q_judge.proofs.TriedSteps.{add-after}
use Rattle.q_check.proofs.makes.add.Goals as goal

pub returns-clause-after : goal.returns-clause-after
returns-clause-after c p =
    let L = c.args.ledger.now in
    rw c.in_ok-put.ensures.prefix (add-after L.prefix L.slots c.put.new.self.slots c.in_ok-put.field-0 p c.args.clause.now c.in_ok-put.ensures.ok)
