use Rattle.std.proofs.Common.{◌≡◌, ◌∙◌, refl, ap, List, [], ◌∷◌, ◌++◌}
use Rattle.q_command.specs.Logs.{Entry}
use Rattle.q_command.specs.Taken.{entries_of}
use Rattle.q_command.specs.declared.taken.TakenStep.{TakenStep}
use Rattle.q_command.proofs.taken.Taken.add.Goals as goal

entries_of-append : (ts us : List TakenStep) → entries_of (ts ++ us) ≡ entries_of ts ++ entries_of us
entries_of-append [] us = refl
entries_of-append (t ∷ ts) us = ap (λ (es : List Entry). (t.line, t.step) ∷ es) (entries_of-append ts us)

pub returns : goal.returns
returns c = record {
  count = refl;
  judged = c.one_more_if-self.ensures;
  keeps = refl;
  steps = λ k. ap entries_of c.in_ok-push.ensures.items ∙ entries_of-append c.args.self.now.steps.items _;
}
