use Rattle.std.proofs.Common.{refl}
use Rattle.q_binary.proofs.FormSteps.{begun}
use Rattle.q_binary.proofs.form.ProofReader.begin.Goals as goal

pub returns : goal.returns
returns c =
    let r = c.self.inside in
    let b = begun r.text c.push.new.self r.binary c.push-2.new.self c.in_default.field-0 c.in_default-push.field-0 r.form c.args.self.now c.self.view_is c.requires.unread c.self.invariant
    c.in_default.ensures.transition c.in_default-push.ensures.transition c.in_default.ensures.next c.in_default-push.ensures.next in
    record { begun = (refl, b.0, b.1) }
