use Rattle.std.proofs.Common.{◌<◌, ◌≤◌, length, sym, ◌∙◌, arith}
use Rattle.std.proofs.lemmas.List.{get_or_default}
use Rattle.q_sparse.proofs.SparseRows.{length-items, within-item, near-item}
use Rattle.q_sparse.proofs.sparse.Sparse.get_full.Goals as goal

pub index-requires : goal.index-requires
index-requires g c =
    let v = c.self.inside in
    let n = length-items v.edge v.none v.len v.near.items v.pages.items v.far.items in
    let r = rw (← c.self.view_is) at c.requires.at in
    let f = rw (← c.self.view_is) at c.requires.full in
    let all = c.self.invariant.all f in
    omega (arith, n, r, all, v.near.ok.0)

pub returns : goal.returns
returns g c =
    let v = c.self.inside in
    let n = length-items v.edge v.none v.len v.near.items v.pages.items v.far.items in
    let r = rw (← c.self.view_is) at c.requires.at in
    let f = rw (← c.self.view_is) at c.requires.full in
    let all = c.self.invariant.all f in
    let near = c.self.invariant.few_near in
    let h : c.args.at < length v.near.items = omega (arith, n, r, all) in
    let item = c.index.ensures ∙ get_or_default v.near.items c.args.at c.index.result.now v.none h in
    rw (← c.self.view_is) (item
    ∙ sym (near-item v.edge v.none v.len v.near.items v.pages.items v.far.items c.args.at (omega (arith, h, near)))
    ∙ sym (within-item v.edge v.none v.len v.near.items v.pages.items v.far.items c.args.at (omega (arith, n, r))))
