use Rattle.q_same_steps.proofs.SameSteps.{same-valid, same-cause, same-after, same-steps}
use Rattle.q_same_steps.proofs.laws.same_formulas_have_the_same_steps.Goals as goal

pub returns : goal.returns
returns c = record {
  valid = same-valid;
  cause = same-cause;
  after = λ m F G s f g a v. same-after m F G s f.distinct g.distinct a v;
  steps = same-steps;
}
