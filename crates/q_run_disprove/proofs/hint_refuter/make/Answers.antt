use Rattle.std.proofs.Common.{◌∙◌}
use Rattle.q_logic.proofs.Common.{on_both}
use Rattle.q_command.proofs.FilePieces.{err_then}
use Rattle.q_run_disprove.proofs.HintedSteps.{hint-bad, hint-may}
use Rattle.q_run_disprove.proofs.hint_refuter.make.Goals as goal

pub returns-in_default : goal.returns-in_default
returns-in_default c = record {
  may = on_both c.step.result c.step.ensures.valid c.step.ensures.valid
      (λ v w. hint-may c.args.checker.now.limits c.args.checker.now.formula c.args.step.now c.args.proof.now c.requires.limits (λ e. c.in_default.not-Delete (c.kind.ensures ∙ e)) v);
  after = c.step.ensures.after;
  limits = c.step.ensures.settings.0 ∙ c.requires.limits;
  keeps = c.step.ensures.settings.1 ∙ c.requires.keeps;
  steps = c.step.ensures.steps;
  refused = err_then c.step.result c.step.ensures.refused
      (λ e r. hint-bad c.args.checker.now.limits c.args.checker.now.formula c.args.step.now c.args.proof.now c.requires.limits (λ q. c.in_default.not-Delete (c.kind.ensures ∙ q)) e r);
}
