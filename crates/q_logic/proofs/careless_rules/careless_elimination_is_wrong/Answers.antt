use Rattle.std.proofs.Common.{refl, inl, inr}
use Rattle.q_logic.specs.declared.rule_bounds.Bounds.{Bounds}
use Rattle.q_logic.specs.Prelude.{positive, numbered, eliminate, Applicable, result_of}
use Rattle.q_logic.specs.Examples.{negative, of_two, guessed}
use Rattle.q_logic.proofs.SmallFormulas.{computed_true, computed_false}
use Rattle.q_logic.proofs.RuleLaws.{false_true}
use Rattle.q_logic.proofs.careless_rules.careless_elimination_is_wrong.Goals as goal

refused : (B : Bounds) → Applicable B guessed.prefix (numbered guessed.matrix) (eliminate 2) → ⊥
refused B h = elim h.fits.outer_side [
  | inl o ↦ false_true (o (of_two (positive 1) (positive 2)) (inl refl) (inr (inl refl)) (positive 1) (inl refl))
  | inr o ↦ false_true (o (of_two (negative 1) (negative 2)) (inr (inl refl)) (inr (inl refl)) (negative 1) (inl refl))
]

pub returns : goal.returns
returns c =
    record {
      refused = refused;
      before = computed_false guessed refl;
      after = computed_true (result_of guessed.prefix (numbered guessed.matrix) (eliminate 2)) refl;
    }
