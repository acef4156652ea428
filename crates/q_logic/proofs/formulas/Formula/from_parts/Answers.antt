use Rattle.q_logic.proofs.FormulaParts.{lawful-proper}
use Rattle.q_logic.proofs.formulas.Formula.from_parts.Goals as goal

pub invariant_of-result : goal.invariant_of-result
invariant_of-result c = lawful-proper c.args.prefix.items c.args.lits.items c.args.ends.items c.requires

pub returns-clause-proper : goal.returns-clause-proper
returns-clause-proper c = lawful-proper c.args.prefix.items c.args.lits.items c.args.ends.items c.requires
