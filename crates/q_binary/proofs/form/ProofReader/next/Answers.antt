use Rattle.std.proofs.Common.{get_or}
use Rattle.q_binary.specs.declared.form.Form.TheVariants.{Text, Binary}
use Rattle.q_binary.proofs.FormSteps.{binary-passes, chooses-same, text-passes}
use Rattle.q_binary.proofs.form.ProofReader.next.Goals as goal

pub returns-in-Text-clause-next : goal.returns-in-Text-clause-next
returns-in-Text-clause-next c =
    let r = c.self.inside in
    let piece = c.args.piece.now in
    text-passes c.next.result r.form r.form r.text c.next.new.self r.binary c.args.self.now piece c.self.view_is c.in-Text.is
    (chooses-same r.form Text (get_or piece 0 0) c.in-Text.is) c.requires.some c.next.ensures.within c.next.ensures.next

pub returns-in-Binary-clause-next : goal.returns-in-Binary-clause-next
returns-in-Binary-clause-next c =
    let r = c.self.inside in
    let piece = c.args.piece.now in
    binary-passes c.push.result c.of_one.result r.form r.form r.text r.binary c.push.new.self c.args.self.now piece c.self.view_is c.in-Binary.is c.of_one.ensures
    (chooses-same r.form Binary (get_or piece 0 0) c.in-Binary.is) c.requires.some c.push.ensures.next
