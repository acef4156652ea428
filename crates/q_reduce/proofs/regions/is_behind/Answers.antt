use Rattle.std.proofs.Common.{◌∙◌, sym}
use Rattle.q_logic.proofs.Common.{universal-is_bound}
use Rattle.q_reduce.proofs.regions.is_behind.Goals as goal

pub outer_or_same-requires-clause-b : goal.outer_or_same-requires-clause-b
outer_or_same-requires-clause-b c = rw c.prefix.ensures (universal-is_bound c.args.kernel.now.prefix c.args.var (sym c.is_universal.ensures ∙ c.if-is_universal.true))
