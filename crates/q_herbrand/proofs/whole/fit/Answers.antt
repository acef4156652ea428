use Rattle.std.proofs.Common.{◌≡◌, sym, subst, ap, ◌∙◌}
use Rattle.q_logic.specs.Prelude.{Prefix, Distinct}
use Rattle.q_certificate.specs.Prelude.{IsMisfit}
use Rattle.q_logic.specs.Exchanging.{exchanged}
use Rattle.q_logic.proofs.Exchanged.{exchanged-distinct}
use Rattle.q_herbrand.proofs.whole.fit.Goals as goal

pub test-requires : goal.test-requires
test-requires c =
    let e : c.deref.result.now ≡ exchanged c.args.output.now.prefix = c.deref.ensures.value ∙ c.in_ok-turned.ensures
    ∙ ap exchanged c.prefix.ensures.value in
    record {
      distinct = subst Distinct (sym e) (exchanged-distinct c.args.output.now.prefix
          c.prefix.ensures.proper.formula.distinct);
    }

pub returns-clause-refused : goal.returns-clause-refused
returns-clause-refused c =
    let e : c.deref.result.now ≡ exchanged c.args.output.now.prefix = c.deref.ensures.value ∙ c.in_ok-turned.ensures
    ∙ ap exchanged c.prefix.ensures.value in
    c.error_of.ensures c.args.output.now c.args.given.now
    (subst (λ (P : Prefix). IsMisfit P c.args.given.now c.in-Err.error) e c.in-Err.ensures.refused)
