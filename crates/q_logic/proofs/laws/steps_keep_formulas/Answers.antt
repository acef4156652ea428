use Rattle.q_logic.proofs.Justified.{Valid-justified, ValidSteps-justified}
use Rattle.q_logic.proofs.Soundness.{after-formula, steps-formula}
use Rattle.q_logic.proofs.laws.steps_keep_formulas.Goals as goal

pub returns : goal.returns
returns c =
    record {
      one = λ m F s f v. after-formula F s f (Valid-justified m F s v);
      all = λ m F E ss f v. steps-formula F ss E f (ValidSteps-justified m F ss E v);
    }
