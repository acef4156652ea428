use Rattle.std.proofs.Common.{refl}
use Rattle.q_logic.specs.Examples.{copied_behind, copied_before}
use Rattle.q_logic.proofs.SmallFormulas.{computed_true, computed_false}
use Rattle.q_logic.proofs.examples.fresh_place_matters.Goals as goal

pub returns : goal.returns
returns c = record { behind = computed_true copied_behind refl; before = computed_false copied_before refl }
