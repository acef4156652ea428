use Rattle.q_prop.proofs.PlainLemmas.{without-length}
use Rattle.std.proofs.Common.{◌∙◌, sym}
use Rattle.q_judge.proofs.view.View.slots.Goals as goal

pub returns : goal.returns
returns c =
    let i = c.self.inside in
    rw (← c.self.view_is) (c.slots.ensures ∙ sym (without-length i.store.now i.skip))
