use Rattle.q_logic.proofs.Justified.{ValidSteps-justified, Run-justified}
use Rattle.q_logic.proofs.Soundness.{steps-true}
use Rattle.q_logic.proofs.Repeated.{run-true_to}
use Rattle.q_logic.proofs.laws.runs_keep_truth.Goals as goal

pub returns : goal.returns
returns c =
    record {
      steps = λ m F E ss f v. steps-true F ss E f (ValidSteps-justified m F ss E v);
      run = λ F G ss f r. run-true_to F ss G f (Run-justified F ss G r);
    }
