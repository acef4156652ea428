-- What is valid by links through variables is valid.
use Rattle.std.proofs.Common.{List, [], ◌∷◌, ◌⊎◌, inl, inr}
use Rattle.q_logic.specs.declared.limits.Limits.{Limits}
use Rattle.q_logic.specs.Prelude.{PrenexFormula, ForallPivot, ProofStep, add, delete, drop_literal, fresh, remove_variable, Valid, IsDroppable, after, one_less, ValidSteps}
use Rattle.q_logic.specs.Reach.{ReducibleByVariable}
use Rattle.q_logic.specs.ByVariable.{ValidByVariable, ValidStepsByVariable}
use Rattle.q_logic.proofs.Reduction.{by_variable-reducible}

pub step-valid : (m : Limits) (F : PrenexFormula) (s : ProofStep) → ValidByVariable m F s → Valid m F s
step-valid m F (add p C) v = v
step-valid m F (delete p C) v = v
step-valid m F (drop_literal l C) (w, i, h) = (w, i, go h)
  where
    go : ForallPivot F.prefix (one_less C F.matrix) C l ⊎ ReducibleByVariable F.prefix (one_less C F.matrix) C l → IsDroppable F.prefix (one_less C F.matrix) C l
    go (inl p) = inl p
    go (inr r) = inr (by_variable-reducible F.prefix (one_less C F.matrix) C l r)
step-valid m F (fresh v w) h = h
step-valid m F (remove_variable v) h = h

pub steps-valid : (m : Limits) (F E : PrenexFormula) (ss : List ProofStep) → ValidStepsByVariable m F ss E → ValidSteps m F ss E
steps-valid m F E [] v = v
steps-valid m F E (s ∷ ss) v = (step-valid m F s v.0, steps-valid m (after F s) E ss v.1)
