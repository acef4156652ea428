use Rattle.std.proofs.Common.{Some}
use Rattle.q_prop.specs.Slots.{filled, without}
use Rattle.q_judge.proofs.SlotCollections.{left-in}
use Rattle.q_judge.proofs.KeptWalks.{walks-fewer}
use Rattle.q_judge.proofs.ledger.Ledger.is_told.Goals as goal

pub returns : goal.returns
returns c t =
    let i = c.self.inside in
    let Y = filled (without i.store (Some c.args.at)) in
    rw (← c.self.view_is) (c.tell.ensures Y t (walks-fewer i.scope i.walks (filled i.store) Y (λ D m. left-in i.store (Some c.args.at) D m) c.self.invariant.2))
