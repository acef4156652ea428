use Rattle.std.proofs.Common.{refl, arith}
use Rattle.q_logic.proofs.Common.{alike_swapped}
use Rattle.q_refutation.proofs.FirstEmpty.{alike_lost}
use Rattle.q_run_disprove.proofs.NotedSteps.{begun-abreast, begun-notes, reach-empty}
use Rattle.q_run_disprove.proofs.refuter.Refuter.start.Goals as goal

pub returns-then-has_empty-clause-lost : goal.returns-then-has_empty-clause-lost
returns-then-has_empty-clause-lost c =
    let alike = alike_swapped c.args.formula c.in-Ok.checker.formula c.in-Ok.ensures.started.0 in
    record {
      says = (alike_lost c.in-Ok.checker.formula c.args.formula alike (c.has_empty.ensures.0 c.if-has_empty.true), refl);
      notes = begun-notes c.args.keeps c.args.formula c.in-Ok-start.notes c.in-Ok-start.ensures;
    }

pub returns-then-has_empty-clause-ready : goal.returns-then-has_empty-clause-ready
returns-then-has_empty-clause-ready c =
    reach-empty c.args.part c.in-Ok.checker.formula c.in-Ok-start.notes
    (begun-abreast c.args.keeps c.args.part c.args.formula c.in-Ok.checker.formula c.in-Ok-start.notes c.requires c.in-Ok.ensures.started.0 c.in-Ok-start.ensures)
    (c.has_empty.ensures.0 c.if-has_empty.true)

pub returns-clause-begun : goal.returns-clause-begun
returns-clause-begun c = record {
  under_way = record {
    limits = c.in-Ok.ensures.started.1;
    keeps = c.in-Ok.ensures.started.2;
    unlost = λ l. absurd (let e = c.has_empty.ensures.1 l in let f = c.if-has_empty.false in cc);
    fewer = omega arith;
    abreast = begun-abreast c.args.keeps c.args.part c.args.formula c.in-Ok.checker.formula c.in-Ok-start.notes c.requires c.in-Ok.ensures.started.0 c.in-Ok-start.ensures;
  };
  alike = c.in-Ok.ensures.started.0;
  part_is = refl;
  none = refl;
  no_own = refl;
  notes = begun-notes c.args.keeps c.args.formula c.in-Ok-start.notes c.in-Ok-start.ensures;
}
