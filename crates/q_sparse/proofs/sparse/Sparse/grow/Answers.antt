use Rattle.std.proofs.Common.{◌≡◌, ◌≤◌, ℕ, List, length, get_or, sym, ◌∙◌, arith, inl, inr, ap, refl}
use Rattle.std.proofs.lemmas.Result.{on_ok_weaker}
use Rattle.q_sparse.specs.Layout.{row_of}
use Rattle.q_sparse.proofs.SparseRows.{length-items, row-grown}
use Rattle.q_sparse.proofs.sparse.Sparse.grow.Goals as goal

pub returns-then-len-self-clause-len : goal.returns-then-len-self-clause-len
returns-then-len-self-clause-len g c =
    let v = c.self.inside in
    let n = length-items v.edge v.none v.len v.near.items v.pages.items v.far.items in
    rw (← c.self.view_is) (omega (arith, n, c.if-len-self.true))

pub returns-in_err-reserve_pages-clause-exact : goal.returns-in_err-reserve_pages-clause-exact
returns-in_err-reserve_pages-clause-exact g c =
    let v = c.self.inside in
    let n = length-items v.edge v.none v.len v.near.items v.pages.items v.far.items in
    let m = length-items v.edge v.none v.len c.reserve.new.values.items c.reserve_pages.new.pages.items c.reserve_pages.new.far.items in
    rw (← c.self.view_is) (inl (m ∙ sym n))

pub returns-clause-len : goal.returns-clause-len
returns-clause-len g c =
    let v = c.self.inside in
    let m = length-items v.edge v.none c.args.len c.fill_all.new.values.items c.reserve_pages.new.pages.items c.reserve_pages.new.far.items in
    let h : c.args.len ≤ length (row_of v.edge v.none c.args.len c.fill_all.new.values.items c.reserve_pages.new.pages.items c.reserve_pages.new.far.items).items = omega (arith, m) in
    h

pub returns-clause-kept : goal.returns-clause-kept
returns-clause-kept g c =
    let v = c.self.inside in
    let n = length-items v.edge v.none v.len v.near.items v.pages.items v.far.items in
    let m = length-items v.edge v.none c.args.len c.fill_all.new.values.items c.reserve_pages.new.pages.items c.reserve_pages.new.far.items in
    let h : length (row_of v.edge v.none v.len v.near.items v.pages.items v.far.items).items ≤ length (row_of v.edge v.none c.args.len c.fill_all.new.values.items c.reserve_pages.new.pages.items c.reserve_pages.new.far.items).items = omega (arith, n, m, c.if-len-self.false) in
    rw (← c.self.view_is) h

pub returns-clause-exact : goal.returns-clause-exact
returns-clause-exact g c =
    let v = c.self.inside in
    inr (length-items v.edge v.none c.args.len c.fill_all.new.values.items c.reserve_pages.new.pages.items c.reserve_pages.new.far.items)

pub returns-clause-items : goal.returns-clause-items
returns-clause-items g c =
    let v = c.self.inside in
    let T = g.row.T.Denot in
    let long = c.self.invariant.within in
    let alike : (j : ℕ) → get_or c.fill_all.new.values.items j v.none ≡ get_or v.near.items j v.none = λ j. c.fill_all.ensures.same j ∙ ap (λ (xs : List T). get_or xs j v.none) c.reserve.ensures.same in
    rw (← c.self.view_is) (row-grown v.edge v.none v.len c.args.len v.near.items c.fill_all.new.values.items v.pages.items c.reserve_pages.new.pages.items v.far.items c.reserve_pages.new.far.items
    (omega (arith, c.if-len-self.false)) long c.self.invariant.beyond c.reserve_pages.ensures.same alike)
