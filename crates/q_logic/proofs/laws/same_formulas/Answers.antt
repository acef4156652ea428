use Rattle.q_logic.proofs.Blocks.{skolem-same, Same-sym}
use Rattle.q_logic.proofs.Repeated.{same-true_to}
use Rattle.q_logic.proofs.laws.same_formulas.Goals as goal

pub returns : goal.returns
returns c =
    record {
      truth = same-true_to;
      skolem = λ F G c s. (skolem-same G F c (Same-sym F G s), skolem-same F G c s);
    }
