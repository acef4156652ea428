use Rattle.std.proofs.Common.{◌∙◌}
use Rattle.q_logic.proofs.Common.{proper-lawful}
use Rattle.q_check.proofs.checker.Checker.formula.Goals as goal

pub from_parts-requires : goal.from_parts-requires
from_parts-requires c =
    let p = c.into_parts-lits in
    let bounds = c.in_ok-prefix.ensures.same ∙ c.scope.ensures in
    let all = p.ensures.clauses ∙ c.in_ok-clauses.ensures in
    proper-lawful c.in_ok-prefix.prefix.items p.result.0.items p.result.1.items p.ensures.ends (rw (bounds, all) c.self.invariant.1)
