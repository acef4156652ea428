use Rattle.std.proofs.Common.{false, refl, arith, subst, sym}
use Rattle.q_logic.proofs.Common.{alike_swapped}
use Rattle.q_refutation.proofs.FirstEmpty.{alike_lost}
use Rattle.q_run_disprove.specs.Readings.{TellsAtOnce}
use Rattle.q_run_disprove.specs.declared.verdict.Verdict.{Verdict}
use Rattle.q_run_disprove.proofs.refuter.Refuter.open.Goals as goal

pub returns-then-has_empty-clause-lost : goal.returns-then-has_empty-clause-lost
returns-then-has_empty-clause-lost c =
    let alike = alike_swapped c.args.formula.now c.in-Ok.checker.formula c.in-Ok.ensures.started.0 in
    subst (λ (v : Verdict). TellsAtOnce false c.args.formula.now v) (sym c.of-then-has_empty.ensures) (record {
      says = (alike_lost c.in-Ok.checker.formula c.args.formula.now alike (c.has_empty.ensures.0 c.if-has_empty.true), refl);
      notes = refl;
    })

pub returns-clause-begun : goal.returns-clause-begun
returns-clause-begun c = record {
  under_way = record {
    limits = c.in-Ok.ensures.started.1;
    keeps = c.in-Ok.ensures.started.2;
    unlost = λ l. absurd (let e = c.has_empty.ensures.1 l in let f = c.if-has_empty.false in cc);
    fewer = omega arith;
    abreast = tt;
  };
  alike = c.in-Ok.ensures.started.0;
  part_is = refl;
  none = refl;
  no_own = refl;
  notes = refl;
}
