-- Valid steps where the clauses that decide whether a universal literal may go are linked by shared variables, in either
-- sign: the stricter form of the reduction. (This project's own form of the reduction by a dependency scheme.)
use Rattle.std.specs.Prelude.{◌≡◌, ◌⊎◌, List, [], ◌∷◌}
use Rattle.q_logic.specs.declared.limits.Limits.{Limits}
use Rattle.q_logic.specs.Formulas.{IsIn, PrenexFormula}
use Rattle.q_logic.specs.Pivots.{ForallPivot}
use Rattle.q_logic.specs.Reach.{ReducibleByVariable}
use Rattle.q_logic.specs.Steps.{ProofStep, add, delete, drop_literal, fresh, remove_variable, Within, Valid, after, one_less}

abbrev pub ValidByVariable : Limits → PrenexFormula → ProofStep → Type 0
ValidByVariable m F (drop_literal l C) =
    Within F.prefix C × IsIn C F.matrix
    × (ForallPivot F.prefix (one_less C F.matrix) C l ⊎ ReducibleByVariable F.prefix (one_less C F.matrix) C l)
ValidByVariable m F (add p C) = Valid m F (add p C)
ValidByVariable m F (delete p C) = Valid m F (delete p C)
ValidByVariable m F (fresh v w) = Valid m F (fresh v w)
ValidByVariable m F (remove_variable v) = Valid m F (remove_variable v)

-- the steps are valid so one after the other, and E is the last formula
abbrev pub ValidStepsByVariable : Limits → PrenexFormula → List ProofStep → PrenexFormula → Type 0
ValidStepsByVariable m F [] E = F ≡ E
ValidStepsByVariable m F (s ∷ ss) E = ValidByVariable m F s × ValidStepsByVariable m (after F s) ss E
