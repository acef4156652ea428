use Rattle.q_prop.specs.Slots.{without}
use Rattle.q_judge.proofs.LeftOut.{slot-within}
use Rattle.q_judge.proofs.view.View.clause.Goals as goal

pub returns : goal.returns
returns c =
    let i = c.self.inside in
    rw (← c.self.view_is) (slot-within i.scope.now (without i.store.now i.skip) c.args.at (λ r. r.now) _ c.clause_at.result c.self.invariant c.clause_at.ensures)
