use Rattle.std.proofs.Common.{sym}
use Rattle.q_sparse.proofs.SparseRows.{length-items}
use Rattle.q_sparse.proofs.sparse.Sparse.len.Goals as goal

pub returns-clause-value : goal.returns-clause-value
returns-clause-value g c =
    let v = c.self.inside in
    rw (← c.self.view_is) (sym (length-items v.edge v.none v.len v.near.items v.pages.items v.far.items))
