use Rattle.std.proofs.Common.{◌∙◌, sym, arith}
use Rattle.q_logic.specs.Prelude.{plain}
use Rattle.q_logic.proofs.Common.{ok_then}
use Rattle.q_command.proofs.FilePieces.{err_then}
use Rattle.q_run_annotate.proofs.WritableProofs.{part-fits}
use Rattle.q_run_show.proofs.ShownSteps.{both-ok, deletion-bad, deletion-fits, deletion-may, front-free, step-bad, step-may}
use Rattle.q_run_show.proofs.scribe.show_step.Goals as goal

pub returns-in-Delete-clause-may : goal.returns-in-Delete-clause-may
returns-in-Delete-clause-may c =
    let a = c.args.annotator.now in
    ok_then c.delete.result c.delete.ensures.named (λ t h. deletion-may a.limits a.formula c.args.step.now t c.requires.under_way.limits (sym c.kind.ensures ∙ c.in-Delete.is) h)

pub returns-in-Delete-clause-part : goal.returns-in-Delete-clause-part
returns-in-Delete-clause-part c =
    let a = c.args.annotator.now in
    let u = c.requires.under_way in
    both-ok c.delete.result c.delete.ensures.named c.delete.ensures.form
    (λ t h e. deletion-fits a.limits a.formula c.args.step.now t (sym c.kind.ensures ∙ c.in-Delete.is) h e (front-free a u) (omega (arith, u.few, c.requires.few)))

pub returns-in-Delete-clause-refused : goal.returns-in-Delete-clause-refused
returns-in-Delete-clause-refused c =
    let a = c.args.annotator.now in
    err_then c.delete.result c.delete.ensures.refused (λ e r. deletion-bad a.limits (plain a.formula) c.args.step.now c.requires.under_way.limits (sym c.kind.ensures ∙ c.in-Delete.is) e r)

pub returns-in_default-clause-may : goal.returns-in_default-clause-may
returns-in_default-clause-may c =
    let a = c.args.annotator.now in
    ok_then c.step.result c.step.ensures.shown (λ t h. step-may a.limits a.formula c.args.step.now t c.requires.under_way.limits (λ e. c.in_default.not-Delete (c.kind.ensures ∙ e)) h)

pub returns-in_default-clause-part : goal.returns-in_default-clause-part
returns-in_default-clause-part c =
    let a = c.args.annotator.now in
    let u = c.requires.under_way in
    both-ok c.step.result c.step.ensures.shown c.step.ensures.form
    (λ t h e. part-fits a.limits a.formula c.args.step.now t h e (front-free a u) (omega (arith, u.few, c.requires.few)))

pub returns-in_default-clause-refused : goal.returns-in_default-clause-refused
returns-in_default-clause-refused c =
    let a = c.args.annotator.now in
    err_then c.step.result c.step.ensures.refused
    (λ e r. step-bad a.limits (plain a.formula) c.args.step.now c.requires.under_way.limits (λ q. c.in_default.not-Delete (c.kind.ensures ∙ q)) e r)
