use Rattle.std.proofs.Common.{◌≡◌, ◌∙◌, ap, false, get_or, refl, true}
use Rattle.q_text.specs.Words.{is_separator}
use Rattle.q_binary.specs.Forms.{ProofState}
use Rattle.q_binary.specs.declared.form.Form.TheVariants.{Text, Binary}
use Rattle.q_binary.proofs.FormSteps.{binary-passes, chooses-blank, chooses-other, text-passes}
use Rattle.q_binary.proofs.form.ProofReader.second.Goals as goal

pub returns-then-is_blank-clause-next : goal.returns-then-is_blank-clause-next
returns-then-is_blank-clause-next c =
    let r = c.self.inside in
    let piece = c.args.piece.now in
    let e : true ≡ is_separator (get_or c.args.piece.now 0 0) = cc in
    text-passes c.next.result r.form Text r.text c.next.new.self r.binary c.args.self.now piece c.self.view_is refl
    (chooses-blank r.form (get_or piece 0 0) (ap (λ (p : ProofState). p.form) c.self.view_is ∙ c.requires.begun) e)
    c.requires.some c.next.ensures.within c.next.ensures.next

pub returns-clause-next : goal.returns-clause-next
returns-clause-next c =
    let r = c.self.inside in
    let piece = c.args.piece.now in
    let e : false ≡ is_separator (get_or c.args.piece.now 0 0) = cc in
    binary-passes c.push.result c.of_one.result r.form Binary r.text r.binary c.push.new.self c.args.self.now piece c.self.view_is refl c.of_one.ensures
    (chooses-other r.form (get_or piece 0 0) (ap (λ (p : ProofState). p.form) c.self.view_is ∙ c.requires.begun) e)
    c.requires.some c.push.ensures.next
