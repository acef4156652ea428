use Rattle.std.proofs.Common.{◌≡◌, ◌∙◌, sym, ap, subst, Err}
use Rattle.q_logic.specs.Prelude.{Prefix, CertificateView, Distinct, trees_of}
use Rattle.q_certificate.specs.Prelude.{Fits}
use Rattle.q_encode.specs.Sides.{turned}
use Rattle.q_encode.specs.Sums.{IsSmall}
use Rattle.q_encode.proofs.GivenCircuits.{turned-distinct}
use Rattle.q_run_miter.proofs.MiterOutcome.{fits-turned, misfit-turned, misfit-fails, made-of}
use Rattle.q_run_miter.proofs.mitering.make_clauses.Goals as goal

pub test-requires : goal.test-requires
test-requires c =
    let e : c.deref.result.now ≡ turned c.args.side c.args.formula.now.prefix =
    c.deref.ensures.value ∙ c.in-Ok.ensures ∙ ap (turned c.args.side) c.prefix.ensures.value in
    record { distinct = subst (λ (Q : Prefix). Distinct Q) (sym e) (turned-distinct c.args.side c.args.formula.now.prefix c.prefix.ensures.proper.formula.distinct) }

pub encode-requires : goal.encode-requires
encode-requires c =
    let e : c.deref.result.now ≡ turned c.args.side c.args.formula.now.prefix =
    c.deref.ensures.value ∙ c.in-Ok.ensures ∙ ap (turned c.args.side) c.prefix.ensures.value in
    c.fitting_circuits_are_lawful.ensures.lawful (turned c.args.side c.args.formula.now.prefix)
    (subst (λ (x : CertificateView). Fits (turned c.args.side c.args.formula.now.prefix) x) (sym c.in-Ok-test.ensures.unchanged)
    (fits-turned c.args.side c.args.formula.now.prefix c.deref.result.now c.args.given.now e c.in-Ok-test.ensures.fits))

pub returns-in-Err-clause-refused : goal.returns-in-Err-clause-refused
returns-in-Err-clause-refused c =
    let e : c.deref.result.now ≡ turned c.args.side c.args.formula.now.prefix =
    c.deref.ensures.value ∙ c.in-Ok.ensures ∙ ap (turned c.args.side) c.prefix.ensures.value in
    misfit-fails c.in-Err.error c.refused_circuits.result c.args.side c.args.formula.now c.args.given.now c.refused_circuits.ensures
    (misfit-turned c.args.side c.args.formula.now.prefix c.deref.result.now c.args.given.now c.in-Err.error e c.in-Err.ensures.refused)

pub returns-in-Ok-encode-clause-made : goal.returns-in-Ok-encode-clause-made
returns-in-Ok-encode-clause-made c =
    let e : c.deref.result.now ≡ turned c.args.side c.args.formula.now.prefix =
    c.deref.ensures.value ∙ c.in-Ok.ensures ∙ ap (turned c.args.side) c.prefix.ensures.value in
    made-of c.args.side c.args.formula.now c.args.given.now c.test.new.given c.in-Ok-encode.clauses c.in-Ok-test.ensures.unchanged
    (fits-turned c.args.side c.args.formula.now.prefix c.deref.result.now c.args.given.now e c.in-Ok-test.ensures.fits)
    c.fitting_circuits_are_lawful.ensures.lawful c.in-Ok-encode.ensures.miter c.in-Ok-encode.ensures.small

pub returns-in-Err-TooLarge-clause-refused : goal.returns-in-Err-TooLarge-clause-refused
returns-in-Err-TooLarge-clause-refused c =
    let e : c.deref.result.now ≡ turned c.args.side c.args.formula.now.prefix =
    c.deref.ensures.value ∙ c.in-Ok.ensures ∙ ap (turned c.args.side) c.prefix.ensures.value in (
      fits-turned c.args.side c.args.formula.now.prefix c.deref.result.now c.args.given.now e c.in-Ok-test.ensures.fits,
      λ s. c.in-Err-TooLarge.ensures.too_large (ap Err c.in-Err-TooLarge.field-0-is) (subst (λ (x : CertificateView). IsSmall c.args.side c.args.formula.now x) (sym c.in-Ok-test.ensures.unchanged) s),
    )
