use Rattle.std.proofs.Common.{◌∙◌, sym}
use Rattle.q_logic.proofs.Common.{existential-is_bound}
use Rattle.q_judge.proofs.scope.Scope.is_inner.Goals as goal

pub outer_or_same-requires-clause-first : goal.outer_or_same-requires-clause-first
outer_or_same-requires-clause-first c = existential-is_bound c.args.self.now c.args.var (sym c.is_existential.ensures ∙ c.if-is_existential.true)
