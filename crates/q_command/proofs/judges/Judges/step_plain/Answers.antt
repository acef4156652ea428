use Rattle.std.proofs.Common.{refl}
use Rattle.q_command.proofs.BothCheckers.{answer-plain, refusal-plain, held-ok, held-err, filled-plain-some, filled-plain-none, free_after}
use Rattle.q_command.proofs.judges.Judges.step_plain.Goals as goal

pub step-requires-clause-there : goal.step-requires-clause-there
step-requires-clause-there c =
    filled-plain-some c.args.self.now.keeps_undo c.args.self.now.origin c.args.self.now.plain c.fill.new.self c.in_ok-fill.ensures.ready

pub step-requires-clause-free : goal.step-requires-clause-free
step-requires-clause-free c = λ e. filled-plain-none c.args.self.now c.fill.new.self c.in_ok-fill.ensures.ready (c.requires e)

pub returns-clause-behind : goal.returns-clause-behind
returns-clause-behind c =
    held-ok c.args.self.now.origin c.step.result _
    (λ F held. answer-plain c.args.self.now.keeps_undo F c.args.step.now c.args.judged c.step.result c.args.self.now.plain c.fill.new.self c.step.new.self (c.in_ok-fill.ensures.ready F held) c.step.ensures)

pub returns-clause-refused : goal.returns-clause-refused
returns-clause-refused c =
    held-err c.args.self.now.origin c.step.result _
    (λ F held. refusal-plain c.args.self.now.keeps_undo F c.args.step.now c.args.judged c.step.result c.args.self.now.plain c.fill.new.self c.step.new.self (c.in_ok-fill.ensures.ready F held) c.step.ensures)

pub returns-clause-free : goal.returns-clause-free
returns-clause-free c = free_after c.args.self.now _ c.fill.new.self c.args.step.now c.args.judged c.step.result c.in_ok-fill.ensures.ready c.step.ensures refl refl
