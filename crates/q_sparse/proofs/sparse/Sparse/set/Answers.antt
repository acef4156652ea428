use Rattle.std.proofs.Common.{◌<◌, length, refl, arith}
use Rattle.q_sparse.proofs.SparseRows.{near-set}
use Rattle.q_sparse.proofs.sparse.Sparse.set.Goals as goal

pub returns-then-at-len-clause-items : goal.returns-then-at-len-clause-items
returns-then-at-len-clause-items g c =
    let v = c.self.inside in
    let h : c.args.at < length v.near.items = omega (arith, c.if-at-len.true, c.len.ensures, v.near.ok.0) in
    let near = c.self.invariant.few_near in
    let within = c.self.invariant.within in
    rw (← c.self.view_is) (near-set v.edge v.none v.len v.near.items v.near.items v.pages.items v.far.items c.args.at c.args.value
    (λ j. refl) h (omega (arith, h, near)) (omega (arith, h, within)))
