use Rattle.std.proofs.Common.{◌∙◌, sym}
use Rattle.q_logic.proofs.Common.{universal-is_bound}
use Rattle.q_judge.proofs.regions.Regions.serve.Goals as goal

pub outer_or_same-requires-clause-first : goal.outer_or_same-requires-clause-first
outer_or_same-requires-clause-first c = universal-is_bound c.args.scope.now c.self.inside.var (sym c.is_universal.ensures ∙ c.if-is_universal.true)
