use Rattle.std.proofs.Common.{◌∙◌, sym}
use Rattle.q_resolve.proofs.Scanned.{tautology-is, or-first}
use Rattle.q_resolve.proofs.leaves.is_hit.Goals as goal

pub returns : goal.returns
returns c = or-first c.is_tautology.result _ _ (tautology-is c.is_tautology.result c.args.clause.now c.is_tautology.ensures) (sym c.is_met.ensures ∙ c.if-is_met.false)
