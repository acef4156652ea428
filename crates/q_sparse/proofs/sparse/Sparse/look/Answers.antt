use Rattle.std.proofs.Common.{◌<◌, length, sym, ◌∙◌, arith}
use Rattle.std.proofs.lemmas.List.{get_or_default}
use Rattle.q_sparse.proofs.SparseRows.{within-item, near-item}
use Rattle.q_sparse.proofs.sparse.Sparse.look.Goals as goal

pub returns-then-at-len : goal.returns-then-at-len
returns-then-at-len g c =
    let v = c.self.inside in
    let h : c.args.at < length v.near.items = omega (arith, c.if-at-len.true, c.len.ensures, v.near.ok.0) in
    let near = c.self.invariant.few_near in
    let within = c.self.invariant.within in
    let item = c.index.ensures ∙ get_or_default v.near.items c.args.at c.index.result.now v.none h in
    rw (← c.self.view_is) (item
    ∙ sym (near-item v.edge v.none v.len v.near.items v.pages.items v.far.items c.args.at (omega (arith, h, near)))
    ∙ sym (within-item v.edge v.none v.len v.near.items v.pages.items v.far.items c.args.at (omega (arith, h, within))))
