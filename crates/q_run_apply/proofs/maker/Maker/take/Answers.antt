use Rattle.std.proofs.Common.{refl}
use Rattle.q_run_apply.proofs.MadeSteps.{passed, convicted}
use Rattle.q_run_apply.proofs.maker.Maker.take.Goals as goal

pub returns-in-Ok-clause-goes : goal.returns-in-Ok-clause-goes
returns-in-Ok-clause-goes c =
    passed c.args.step.now c.args.self.now _ c.requires.under_way c.in-Ok.ensures.fit c.in-Ok.ensures.after c.in-Ok.ensures.kept refl

pub returns-in-Err-clause-convicts : goal.returns-in-Err-clause-convicts
returns-in-Err-clause-convicts c = convicted c.args.self.now c.args.line c.args.step.now c.in-Err.error c.step_refusal.result c.requires.under_way c.step_refusal.ensures.is c.in-Err.ensures.refused
