use Rattle.std.proofs.Common.{refl, inl}
use Rattle.q_logic.specs.Examples.{answered, answered_less}
use Rattle.q_logic.proofs.SmallFormulas.{computed_true, computed_false}
use Rattle.q_logic.proofs.examples.careless_reduction_is_wrong.Goals as goal

pub returns : goal.returns
returns c =
    record {
      reduction = record { universal_literal = refl; in_clause = inl refl };
      before = computed_true answered refl;
      after = computed_false answered_less refl;
    }
