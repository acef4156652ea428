use Rattle.std.proofs.Common.{◌∙◌, ap, subst, refl, sym, ◌<◌, ◌^◌, ◌+◌, ℕ}
use Rattle.std.proofs.lemmas.Result.{on_ok_weaker}
use Rattle.q_command.proofs.BothCheckers.{answer-hinted, refusal-hinted, held-ok, held-err, filled-hinted-some, filled-hinted-none, filled-hints, free_after_hinted}
use Rattle.q_command.proofs.judges.Judges.step_hinted.Goals as goal

pub step-requires-clause-there : goal.step-requires-clause-there
step-requires-clause-there c =
    filled-hinted-some c.args.self.now.keeps_undo c.args.self.now.origin c.args.self.now.hinted c.fill.new.self c.in_ok-fill.ensures.ready

pub step-requires-clause-hints : goal.step-requires-clause-hints
step-requires-clause-hints c =
    subst (λ (n : ℕ). n < 2 ^ 61) (sym (filled-hints c.args.self.now.keeps_undo c.args.self.now.origin c.args.self.now.hinted c.fill.new.self c.in_ok-fill.ensures.ready)) c.requires.hints

pub step-requires-clause-free : goal.step-requires-clause-free
step-requires-clause-free c = λ e. filled-hinted-none c.args.self.now c.fill.new.self c.in_ok-fill.ensures.ready (c.requires.free e)

pub returns-clause-free : goal.returns-clause-free
returns-clause-free c = free_after_hinted c.args.self.now _ c.fill.new.self c.args.step.now c.args.proof.now c.args.judged c.step.result c.in_ok-fill.ensures.ready c.step.ensures.stepped refl refl

pub returns-clause-taken : goal.returns-clause-taken
returns-clause-taken c =
    on_ok_weaker c.step.result
    (λ e. e ∙ ap (λ (n : ℕ). n + 1) (filled-hints c.args.self.now.keeps_undo c.args.self.now.origin c.args.self.now.hinted c.fill.new.self c.in_ok-fill.ensures.ready))
    c.step.ensures.taken

pub returns-clause-behind : goal.returns-clause-behind
returns-clause-behind c =
    held-ok c.args.self.now.origin c.step.result _
    (λ F held. answer-hinted c.args.self.now.keeps_undo F c.args.step.now c.args.proof.now c.args.judged c.step.result c.args.self.now.hinted c.fill.new.self c.step.new.self (c.in_ok-fill.ensures.ready F held) c.step.ensures.stepped)

pub returns-clause-refused : goal.returns-clause-refused
returns-clause-refused c =
    held-err c.args.self.now.origin c.step.result _
    (λ F held. refusal-hinted c.args.self.now.keeps_undo F c.args.step.now c.args.proof.now c.args.judged c.step.result c.args.self.now.hinted c.fill.new.self c.step.new.self (c.in_ok-fill.ensures.ready F held) c.step.ensures.stepped)
