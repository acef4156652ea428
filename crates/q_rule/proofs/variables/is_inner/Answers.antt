use Rattle.std.proofs.Common.{◌∙◌, sym}
use Rattle.q_logic.proofs.Common.{existential-is_bound}
use Rattle.q_rule.proofs.variables.is_inner.Goals as goal

pub outer_or_same-requires-clause-a : goal.outer_or_same-requires-clause-a
outer_or_same-requires-clause-a c = rw c.prefix.ensures (existential-is_bound c.args.kernel.now.prefix c.args.var (sym c.is_existential.ensures ∙ c.if-is_existential.true))
