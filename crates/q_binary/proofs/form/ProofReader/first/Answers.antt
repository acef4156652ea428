use Rattle.std.proofs.Common.{◌≡◌, ◌==◌, ◌∙◌, ap, arith, false, get_or, refl}
use Rattle.std.proofs.lemmas.Bool.Decides.{nat_tests}
use Rattle.q_binary.specs.Forms.{ProofState}
use Rattle.q_binary.specs.declared.form.Form.TheVariants.{Text}
use Rattle.q_binary.proofs.FormSteps.{begun-passes, chooses-text, text-passes}
use Rattle.q_binary.proofs.form.ProofReader.first.Goals as goal

pub returns-in-100-clause-next : goal.returns-in-100-clause-next
returns-in-100-clause-next c =
    begun-passes c.begin.result c.args.self.now c.begin.new.self c.args.piece.now c.requires.some c.in-100.is c.begin.ensures.begun

pub returns-in_default-clause-next : goal.returns-in_default-clause-next
returns-in_default-clause-next c =
    let r = c.self-in_default.inside in
    let piece = c.args.piece.now in
    let e : (get_or c.args.piece.now 0 0 == 97) ≡ false = grind (arith, nat_tests) in
    let f : (get_or c.args.piece.now 0 0 == 100) ≡ false = grind (arith, nat_tests) in
    text-passes c.next.result r.form Text r.text c.next.new.self r.binary c.args.self.now piece c.self-in_default.view_is refl
    (chooses-text r.form (get_or piece 0 0) (ap (λ (p : ProofState). p.form) c.self-in_default.view_is ∙ c.requires.unread) e f)
    c.requires.some c.next.ensures.within c.next.ensures.next
