use Rattle.std.proofs.Common.{refl}
use Rattle.q_logic.specs.Examples.{answered, guessed}
use Rattle.q_logic.proofs.SmallFormulas.{computed_true, computed_false}
use Rattle.q_logic.proofs.examples.order_matters_to_truth.Goals as goal

pub returns : goal.returns
returns c = record { answered = computed_true answered refl; guessed = computed_false guessed refl }
