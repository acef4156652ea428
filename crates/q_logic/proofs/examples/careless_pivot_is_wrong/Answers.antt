use Rattle.std.proofs.Common.{refl}
use Rattle.q_logic.specs.Examples.{guessed, guessed_less}
use Rattle.q_logic.proofs.SmallFormulas.{computed_true, computed_false, careless}
use Rattle.q_logic.proofs.examples.careless_pivot_is_wrong.Goals as goal

pub returns : goal.returns
returns c = record { pivot = careless; before = computed_false guessed refl; after = computed_true guessed_less refl }
