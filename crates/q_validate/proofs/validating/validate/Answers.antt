use Rattle.std.proofs.Common.{sym, subst, ◌∙◌}
use Rattle.q_logic.specs.Prelude.{Prefix, CertificateView, trees_of, Lawful}
use Rattle.q_certificate.specs.Prelude.{Fits}
use Rattle.q_validate.specs.Answers.{IsAnswer}
use Rattle.q_validate.proofs.KnownValues.{named-bound}
use Rattle.q_validate.proofs.validating.validate.Goals as goal

pub examine-requires-clause-fed : goal.examine-requires-clause-fed
examine-requires-clause-fed c x u e r =
    let P = c.args.formula.now.prefix in
    let C = c.test.new.given in
    let f : Fits P C =
    subst (Fits P) (sym c.in_ok-test.ensures.unchanged) (subst (λ (Q : Prefix). Fits Q c.args.certificate.now) c.prefix.ensures.value c.in_ok-test.ensures.fits) in
    let l : Lawful P (trees_of C) = c.fitting_circuits_are_lawful.ensures.lawful P f in
    named-bound C.inputs u (c.fitting_circuits_are_lawful.ensures.reads x u (l.trees x ∙ e) r)

pub returns-clause-answer : goal.returns-clause-answer
returns-clause-answer c =
    subst (λ (C : CertificateView). IsAnswer c.args.formula.now C c.args.budget c.in_ok-answer.answer)
    c.in_ok-test.ensures.unchanged c.in_ok-answer.ensures
