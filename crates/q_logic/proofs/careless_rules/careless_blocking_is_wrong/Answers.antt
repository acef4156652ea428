use Rattle.std.proofs.Common.{refl, inl, inr}
use Rattle.q_logic.specs.Prelude.{positive, numbered, blocked, result_of}
use Rattle.q_logic.specs.Examples.{negative, of_two, guessed}
use Rattle.q_logic.proofs.SmallFormulas.{computed_true, computed_false}
use Rattle.q_logic.proofs.careless_rules.careless_blocking_is_wrong.Goals as goal

pub returns : goal.returns
returns c =
    record {
      careless = refl;
      refused = λ B h. elim (h.fits.4 (of_two (negative 1) (negative 2)) (inl refl) (inr (inl refl))).1 [ ];
      before = computed_false guessed refl;
      after = computed_true (result_of guessed.prefix (numbered guessed.matrix) (blocked 0 (positive 2))) refl;
    }
