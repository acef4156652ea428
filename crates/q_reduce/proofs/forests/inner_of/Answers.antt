use Rattle.std.proofs.Common.{sym, ◌∙◌}
use Rattle.q_logic.proofs.Common.{universal-is_bound}
use Rattle.q_reduce.proofs.forests.inner_of.Goals as goal

pub returns-then-is_outer : goal.returns-then-is_outer
returns-then-is_outer c = universal-is_bound c.args.kernel.now.prefix c.args.second (sym c.is_universal.ensures ∙ c.if-is_universal.true)
