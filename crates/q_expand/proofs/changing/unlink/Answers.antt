use Rattle.std.proofs.Common.{ℕ, Some}
use Rattle.q_logic.specs.Prelude.{Literal, ProofStep, delete}
use Rattle.q_expand.specs.Steps.{linked}
use Rattle.q_expand.proofs.CopyLinks.{first-can, second-can, both-taken}
use Rattle.q_expand.proofs.changing.unlink.Goals as goal

abbrev step : ℕ → Literal → Literal → ProofStep
step u a b = delete (Some b) (linked u a b)

pub delete_link-requires-clause-steps : goal.delete_link-requires-clause-steps
delete_link-requires-clause-steps c = first-can (step c.args.u.var) c.args.kernel.now c.args.kernel.now c.args.x c.args.copy c.new-copy.result c.new-original.result c.new-copy.ensures c.new-original.ensures c.requires.steps

pub delete_link-requires-2-clause-steps : goal.delete_link-requires-2-clause-steps
delete_link-requires-2-clause-steps c =
    let m = c.delete_link.new.kernel in
    second-can (step c.args.u.var) c.args.kernel.now m c.args.x c.args.copy c.new-copy.result c.new-original.result c.new-copy.ensures c.new-original.ensures c.negated.result c.negated-2.result c.negated.ensures c.negated-2.ensures c.delete_link.ensures c.requires.steps

pub returns : goal.returns
returns c =
    let m = c.delete_link.new.kernel in
    record { taken = both-taken (step c.args.u.var) c.args.kernel.now m c.args.x c.args.copy c.new-copy.result c.new-original.result c.new-copy.ensures c.new-original.ensures c.negated.result c.negated-2.result c.negated.ensures c.negated-2.ensures c.delete_link.ensures c.delete_link-2.new.kernel c.delete_link-2.ensures }
