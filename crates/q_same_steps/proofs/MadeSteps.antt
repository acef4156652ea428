-- What is valid can be made.
use Rattle.q_logic.specs.declared.limits.Limits.{Limits}
use Rattle.q_logic.specs.Prelude.{PrenexFormula}
use Rattle.q_logic.specs.Steps.{ProofStep, add, delete, drop_literal, fresh, remove_variable, Valid}
use Rattle.q_same_steps.specs.Making.{Applies}

pub valid-applies : (m : Limits) (F : PrenexFormula) (s : ProofStep) → Valid m F s → Applies m F s
valid-applies m F (add p C) v = (v.0, v.2)
valid-applies m F (delete p C) v = (v.0, v.1)
valid-applies m F (drop_literal l C) v = (v.0, v.1)
valid-applies m F (fresh v w) h = h
valid-applies m F (remove_variable v) h = h
