use Rattle.std.proofs.Common.{ℕ, Some}
use Rattle.q_logic.specs.Prelude.{Literal, ProofStep, add}
use Rattle.q_expand.specs.Steps.{linked}
use Rattle.q_expand.proofs.CopyLinks.{first-can, second-can, both-taken}
use Rattle.q_expand.proofs.changing.link.Goals as goal

abbrev step : ℕ → Literal → Literal → ProofStep
step u a b = add (Some a) (linked u a b)

pub add_link-requires-clause-steps : goal.add_link-requires-clause-steps
add_link-requires-clause-steps c = first-can (step c.args.u.var) c.args.kernel.now c.args.kernel.now c.args.x c.args.copy c.new-copy.result c.new-original.result c.new-copy.ensures c.new-original.ensures c.requires.steps

pub add_link-requires-2-clause-steps : goal.add_link-requires-2-clause-steps
add_link-requires-2-clause-steps c =
    let m = c.add_link.new.kernel in
    second-can (step c.args.u.var) c.args.kernel.now m c.args.x c.args.copy c.new-copy.result c.new-original.result c.new-copy.ensures c.new-original.ensures c.negated.result c.negated-2.result c.negated.ensures c.negated-2.ensures c.add_link.ensures.taken c.requires.steps

pub returns-clause-taken : goal.returns-clause-taken
returns-clause-taken c =
    let m = c.add_link.new.kernel in
    both-taken (step c.args.u.var) c.args.kernel.now m c.args.x c.args.copy c.new-copy.result c.new-original.result c.new-copy.ensures c.new-original.ensures c.negated.result c.negated-2.result c.negated.ensures c.negated-2.ensures c.add_link.ensures.taken c.add_link-2.new.kernel c.add_link-2.ensures.taken
