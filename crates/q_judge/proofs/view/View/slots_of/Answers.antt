use Rattle.q_judge.proofs.LeftOut.{slots-left}
use Rattle.q_judge.proofs.view.View.slots_of.Goals as goal

pub returns : goal.returns
returns c =
    let i = c.self.inside in
    rw (← c.self.view_is) (slots-left i.store.now i.skip c.args.lit c.holders.result.now c.holders.ensures.members c.holders.ensures.once)
