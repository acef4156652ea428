use Rattle.q_judge.proofs.TriedSteps.{delete-after}
use Rattle.q_herbrand.proofs.steps.delete.Goals as goal

pub returns : goal.returns
returns c p =
    let L = c.args.ledger.now in
    rw c.delete.ensures (delete-after L.prefix L.slots c.place_of-at.result c.args.clause.now c.place_of-at.ensures p)
