use Rattle.std.proofs.Common.{◌≤◌, ◌++◌, length, length-append, arith}
use Rattle.std.proofs.lemmas.Grind.{common_steps}
use Rattle.q_logic.proofs.ClauseBounds.{ends-push, clauses-push}
use Rattle.q_logic.proofs.clause_row.Clauses.push.Goals as goal

pub invariant_of-self-else-is_err : goal.invariant_of-self-else-is_err
invariant_of-self-else-is_err c =
    let lits = c.self.inside.lits.items in
    let l : length lits ≤ length (lits ++ c.args.clause.now) = rw length-append (omega arith) in
    let h = ends-push 0 c.self.inside.ends.items (length lits) (length (lits ++ c.args.clause.now)) c.self.invariant l in
    grind (arith, common_steps, h)

pub returns-clause-ok : goal.returns-clause-ok
returns-clause-ok c =
    let h = clauses-push c.self.inside.lits.items c.args.clause.now 0 c.self.inside.ends.items c.self.invariant in
    grind (arith, common_steps, h, c.self.view_is)
