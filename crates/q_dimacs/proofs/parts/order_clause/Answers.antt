use Rattle.std.proofs.Common.{◌≡◌, true, sym}
use Rattle.q_logic.proofs.Common.{clause_of-ordered_clause}
use Rattle.q_dimacs.proofs.parts.order_clause.Goals as goal

pub returns-else-not-is_ordered : goal.returns-else-not-is_ordered
returns-else-not-is_ordered c =
    let e : c.is_ordered.result ≡ true = cc in
    let h = rw c.deref.ensures.value at (c.is_ordered.ensures e) in
    sym (clause_of-ordered_clause c.args.lits.now.items h)
