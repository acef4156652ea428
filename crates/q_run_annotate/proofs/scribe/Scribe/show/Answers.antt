use Rattle.std.proofs.Common.{arith, refl}
use Rattle.q_logic.specs.Prelude.{plain}
use Rattle.q_run_annotate.specs.Readings.{turn}
use Rattle.q_run_annotate.proofs.WritableProofs.{goes, part-fits, fits-front}
use Rattle.q_run_annotate.proofs.AnnotatedSteps.{convicted}
use Rattle.q_run_annotate.proofs.scribe.Scribe.show.Goals as goal

pub push_hinted-requires : goal.push_hinted-requires
push_hinted-requires c =
    let a = c.args.self.now.annotator in
    let u = c.requires.under_way in
    part-fits a.limits a.formula c.args.step.now c.in-Ok.proof c.in-Ok.ensures.shown c.in-Ok.ensures.form (fits-front a.formula.slots u.no_clause)
    (omega (arith, u.few, c.requires.few))

pub returns-in-Ok-push_hinted-clause-goes : goal.returns-in-Ok-push_hinted-clause-goes
returns-in-Ok-push_hinted-clause-goes c =
    goes c.args.step.now c.in-Ok.proof c.args.self.now _ c.requires.turn c.requires.under_way c.requires.few c.in-Ok.ensures.shown c.in-Ok.ensures.form c.in-Ok.ensures.after c.in-Ok.ensures.limits c.in-Ok.ensures.steps
    refl c.in-Ok-push_hinted.ensures.ok refl

pub returns-clause-refused : goal.returns-clause-refused
returns-clause-refused c =
    convicted (turn c.args.self.now) c.requires.turn c.step_refusal.result c.args.self.now.annotator.limits (plain c.args.self.now.annotator.formula) c.args.line c.args.step.now c.in-Err.error c.step_refusal.ensures.is c.requires.under_way.limits c.in-Err.ensures.refused
