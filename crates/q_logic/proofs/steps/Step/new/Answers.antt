use Rattle.std.proofs.Common.{◌∙◌, ap, sym, subst, List}
use Rattle.q_logic.specs.Prelude.{Literal}
use Rattle.q_logic.specs.StepForms.{AreStepParts, step_of}
use Rattle.q_logic.proofs.StepForms.{step_of-arranged, arranged-parts}
use Rattle.q_logic.proofs.steps.Step.new.Goals as goal

pub invariant_of-t-3 : goal.invariant_of-t-3
invariant_of-t-3 c = subst (AreStepParts c.args.kind) (sym c.arrange.ensures) (arranged-parts c.args.kind c.args.lits c.in-Add.is c.requires)

pub returns-in-Add : goal.returns-in-Add
returns-in-Add c = ap (λ (ls : List Literal). step_of c.args.kind ls) c.arrange.ensures ∙ step_of-arranged c.args.kind c.args.lits c.in-Add.is
