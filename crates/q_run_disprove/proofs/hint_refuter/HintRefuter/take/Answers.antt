use Rattle.std.proofs.Common.{refl, arith}
use Rattle.q_run_disprove.proofs.HintedSteps.{hint-refused, hint-no_fault, hinted-lost, hinted-unlost}
use Rattle.q_run_disprove.proofs.hint_refuter.HintRefuter.take.Goals as goal

pub returns-in-Err-clause-convicts : goal.returns-in-Err-clause-convicts
returns-in-Err-clause-convicts c =
    hint-refused c.args.self.now c.args.line c.args.step.now c.args.proof.now c.in-Err.error c.step_refusal.result c.step_refusal.ensures c.in-Err.ensures.refused

pub returns-in-Err-clause-fault : goal.returns-in-Err-clause-fault
returns-in-Err-clause-fault c e = hint-no_fault c.args.line c.in-Err.error c.step_refusal.result c.step_refusal.ensures (let x = e in cc)

pub returns-then-brings_empty-clause-convicts : goal.returns-then-brings_empty-clause-convicts
returns-then-brings_empty-clause-convicts c = (
  c.in_default.ensures.may,
  hinted-lost c.args.self.now.checker.formula c.args.step.now c.args.proof.now c.in_default.ensures.may (c.brings_empty.ensures.yes c.if-brings_empty.true),
  refl,
)

pub returns-clause-goes : goal.returns-clause-goes
returns-clause-goes c = record {
  may = c.in_default.ensures.may;
  formula = c.in_default.ensures.after;
  under_way = record {
    limits = c.make.ensures.limits;
    keeps = c.make.ensures.keeps;
    unlost = hinted-unlost c.args.self.now.checker.formula c.make.new.checker.formula c.args.step.now c.args.proof.now c.requires.under_way.unlost c.in_default.ensures.may c.in_default.ensures.after
        (c.brings_empty.ensures.no c.if-brings_empty.false);
    counted = omega (arith, c.in_default.ensures.steps, c.requires.under_way.counted);
  };
  steps = refl;
}
