use Rattle.q_prop.specs.Slots.{without}
use Rattle.q_prop.proofs.SlotLemmas.{without-kept}
use Rattle.q_judge.proofs.SlotCollections.{held-in}
use Rattle.q_judge.proofs.EvidentPivots.{denied}
use Rattle.q_judge.proofs.view.View.finds.Goals as goal

pub returns-in-Some : goal.returns-in-Some
returns-in-Some c t =
    let i = c.self.inside in
    let kept = without-kept i.store.now i.skip c.in-Some.at c.args.lits.now (λ e. denied c.is_left_out.result t (c.is_left_out.ensures.1 e)) c.in-Some.ensures in
    rw (← c.self.view_is) (held-in (without i.store.now i.skip) c.in-Some.at c.args.lits.now kept)
