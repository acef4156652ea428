-- Formulas that differ in the order of their clauses alone.
use Rattle.std.specs.Prelude.{List}
use Rattle.q_logic.specs.Prelude.{PrenexFormula, ProofStep, AreAlike, ValidSteps}
use Rattle.q_logic.specs.declared.limits.Limits.{Limits}

-- valid steps lead from F to G, up to the order of clauses
pub record Leads (m : Limits) (F : PrenexFormula) (ss : List ProofStep) (G : PrenexFormula) : Type 0 where
  pub last : PrenexFormula
  pub steps : ValidSteps m F ss last
  pub alike : AreAlike last G
