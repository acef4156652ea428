use Rattle.std.proofs.Common.{refl}
use Rattle.q_logic.specs.Prelude.{numbered, expand_universal, result_of}
use Rattle.q_logic.specs.CarelessRules.{connected, forgetful_expansion}
use Rattle.q_logic.proofs.SmallFormulas.{computed_true, computed_false}
use Rattle.q_logic.proofs.careless_rules.careless_expansion_is_wrong.Goals as goal

pub returns : goal.returns
returns c =
    record {
      before = computed_true connected refl;
      right = computed_true (result_of connected.prefix (numbered connected.matrix) (expand_universal 1)) refl;
      forgetful = computed_false (forgetful_expansion connected 1) refl;
    }
