use Rattle.std.proofs.Common.{◌∙◌, refl, sym, subst, Bool}
use Rattle.q_command.specs.Parts.{share_of}
use Rattle.q_command.specs.Taken.{HasAdded}
use Rattle.q_command.proofs.AuditSteps.{convicted, is_turn}
use Rattle.q_command.proofs.trial.Trial.take.Goals as goal

pub step-requires-clause-free : goal.step-requires-clause-free
step-requires-clause-free c = λ e. c.requires.may c.args.self.now.taken.count (sym c.judges-judged.ensures ∙ e)

pub returns-in-Ok-add-clause-tried : goal.returns-in-Ok-add-clause-tried
returns-in-Ok-add-clause-tried c = record {
  behind = λ F es like b. c.in-Ok.ensures.behind (share_of c.args.self.now.part) F es c.args.line
      (is_turn (share_of c.args.self.now.part) es c.args.proof.now c.judges-judged.result c.args.self.now.taken.count like b.counted c.judges-judged.ensures) b.judged;
  part = refl;
  free = c.in-Ok.ensures.free;
  same = c.in-Ok.ensures.same;
  hints = c.in-Ok.ensures.taken;
  added = subst (λ (t : Bool). HasAdded (c.args.line, c.args.step) t c.args.self.now.taken c.add.new.self) c.judges-judged.ensures c.in-Ok-add.ensures;
}

pub returns-in-Err-clause-refused : goal.returns-in-Err-clause-refused
returns-in-Err-clause-refused c = λ F es like b.
    convicted (share_of c.args.self.now.part) c.step_refusal.result F es c.args.line c.args.step c.args.proof.now c.in-Err.error c.step_refusal.ensures.is
    (c.in-Err.ensures.refused (share_of c.args.self.now.part) F es
    (is_turn (share_of c.args.self.now.part) es c.args.proof.now c.judges-judged.result c.args.self.now.taken.count like b.counted c.judges-judged.ensures) b.judged)
