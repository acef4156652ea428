use Rattle.q_logic.proofs.Common.{live-slot}
use Rattle.q_kernel.specs.Prelude.{slots}
use Rattle.q_rule.proofs.variables.clause_of.Goals as goal

pub returns-clause-within : goal.returns-clause-within
returns-clause-within c k m = c.sound.ensures.proper.formula.closed c.lits.result.now (live-slot (slots c.args.kernel.now) c.args.id c.lits.result.now c.lits.ensures.clause) k m
