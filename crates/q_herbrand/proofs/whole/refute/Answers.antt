use Rattle.std.proofs.Common.{◌≡◌, sym, subst, ap, ◌∙◌}
use Rattle.q_logic.specs.Prelude.{Prefix, Distinct, IsFormula, CertificateView, trees_of, Lawful, Run}
use Rattle.q_certificate.specs.Narrowed.{IsNarrowed}
use Rattle.q_certificate.specs.Prelude.{Fits}
use Rattle.q_logic.specs.Exchanging.{exchanged}
use Rattle.q_logic.specs.Herbrands.{LawfulHerbrand}
use Rattle.q_logic.proofs.Exchanged.{exchanged-distinct, exchanged-lawful}
use Rattle.q_herbrand.specs.Refuted.{IsWide, IsRefuted}
use Rattle.q_logic.proofs.ForthRuns.{lawful_herbrand-same}
use Rattle.q_herbrand.proofs.MadeSteps.{valid-all_made}
use Rattle.q_herbrand.proofs.RunCircuits.{refuted}
use Rattle.q_herbrand.proofs.whole.refute.Goals as goal

pub narrow-requires : goal.narrow-requires
narrow-requires c =
    let e : c.deref-2.result.now ≡ exchanged c.args.input.now.prefix = c.deref-2.ensures.value
    ∙ c.in_ok-turned.ensures ∙ ap exchanged c.prefix.ensures.value in
    record {
      distinct = subst Distinct (sym e) (exchanged-distinct c.args.input.now.prefix
          c.prefix.ensures.proper.formula.distinct);
    }

pub carry-requires-clause-run : goal.carry-requires-clause-run
carry-requires-clause-run c =
    let fits : Fits (exchanged c.args.output.now.prefix) c.accept.new.given =
    subst (λ (g : CertificateView). Fits (exchanged c.args.output.now.prefix) g)
    (sym c.in_ok-accept.ensures.unchanged) c.in_ok-accept.ensures.accepted.fits in
    let run : Run c.args.input.now c.requires.0 c.args.output.now = c.requires.1 in
    record {
      last = run.last;
      steps = c.requires.0;
      made = valid-all_made c.args.input.now c.requires.0 run.last run.steps;
      reversals = c.requires.2;
      lawful = lawful_herbrand-same run.last c.args.output.now (trees_of c.accept.new.given) run.same
          (exchanged-lawful c.args.output.now.prefix (trees_of c.accept.new.given)
          (c.fitting_circuits_are_lawful.ensures.lawful (exchanged c.args.output.now.prefix) fits));
    }

pub returns-clause-refuted : goal.returns-clause-refuted
returns-clause-refuted c =
    let e : c.deref-2.result.now ≡ exchanged c.args.input.now.prefix = c.deref-2.ensures.value
    ∙ c.in_ok-turned.ensures ∙ ap exchanged c.prefix.ensures.value in
    let same = c.in_ok-accept.ensures.unchanged in
    let run = c.requires in
    let f : IsFormula c.args.input.now = c.prefix.ensures.proper.formula in
    let fits : Fits (exchanged c.args.output.now.prefix) c.accept.new.given =
    subst (λ (g : CertificateView). Fits (exchanged c.args.output.now.prefix) g) (sym same)
    c.in_ok-accept.ensures.accepted.fits in
    let law : LawfulHerbrand c.args.output.now.prefix (trees_of c.accept.new.given) =
    exchanged-lawful c.args.output.now.prefix (trees_of c.accept.new.given)
    (c.fitting_circuits_are_lawful.ensures.lawful (exchanged c.args.output.now.prefix) fits) in
    let wide : IsWide c.args.input.now c.args.reversals.now c.accept.new.given c.in_ok-wide.wide =
    c.in_ok-wide.ensures in
    let narrowed : IsNarrowed (exchanged c.args.input.now.prefix) c.in_ok-wide.wide c.in_ok-made.made =
    subst (λ (P : Prefix). IsNarrowed P c.in_ok-wide.wide c.in_ok-made.made) e
    (c.in_ok-made.ensures (subst (λ (P : Prefix). Lawful P (trees_of c.in_ok-wide.wide)) (sym e)
    wide.lawful)) in
    subst (λ (g : CertificateView). IsRefuted c.args.input.now c.args.output.now c.args.reversals.now g
    c.in_ok-made.made) same
    (refuted c.args.input.now c.args.output.now run.0 c.args.reversals.now c.accept.new.given c.in_ok-wide.wide
    c.in_ok-made.made f run.1 run.2 law wide narrowed)
