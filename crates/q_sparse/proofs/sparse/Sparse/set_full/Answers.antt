use Rattle.std.proofs.Common.{◌<◌, ◌≤◌, length, refl, arith}
use Rattle.q_sparse.proofs.SparseRows.{length-items, near-set}
use Rattle.q_sparse.proofs.sparse.Sparse.set_full.Goals as goal

pub index_mut-requires : goal.index_mut-requires
index_mut-requires g c =
    let v = c.self.inside in
    let n = length-items v.edge v.none v.len v.near.items v.pages.items v.far.items in
    let r = rw (← c.self.view_is) at c.requires.at in
    let f = rw (← c.self.view_is) at c.requires.full in
    let all = c.self.invariant.all f in
    omega (arith, n, r, all, v.near.ok.0)

pub returns-clause-items : goal.returns-clause-items
returns-clause-items g c =
    let v = c.self.inside in
    let n = length-items v.edge v.none v.len v.near.items v.pages.items v.far.items in
    let r = rw (← c.self.view_is) at c.requires.at in
    let f = rw (← c.self.view_is) at c.requires.full in
    let all = c.self.invariant.all f in
    let near = c.self.invariant.few_near in
    let h : c.args.at < length v.near.items = omega (arith, n, r, all) in
    rw (← c.self.view_is) (near-set v.edge v.none v.len v.near.items v.near.items v.pages.items v.far.items c.args.at c.args.value
    (λ j. refl) h (omega (arith, h, near)) (omega (arith, n, r)))
