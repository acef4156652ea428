use Rattle.std.proofs.Common.{ap, length}
use Rattle.q_logic.specs.Prelude.{Matrix}
use Rattle.q_logic.proofs.ClauseBounds.{length-clauses_between}
use Rattle.q_logic.proofs.clause_row.Clauses.len.Goals as goal

pub returns : goal.returns
returns c =
    let e = ap (λ (X : Matrix). length X) c.self.view_is in
    let l = length-clauses_between c.self.inside.lits.items 0 c.self.inside.ends.items in
    let v = c.self.inside.ends.ok.0 in
    cc
