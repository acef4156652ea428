use Rattle.std.proofs.Common.{◌<◌, ◌≤◌, length, sym, ◌∙◌, arith, inl, inr}
use Rattle.std.proofs.lemmas.Bool.{cases_lt}
use Rattle.std.proofs.lemmas.List.{get_or_past}
use Rattle.q_sparse.proofs.SparseRows.{within-item, near-item, far-item, past-item}
use Rattle.q_sparse.proofs.sparse.Sparse.look_beyond.Goals as goal

pub returns-then-at-self : goal.returns-then-at-self
returns-then-at-self g c =
    let v = c.self.inside in
    let below = c.self.invariant.within in
    let item = c.near_item.ensures in
    rw (← c.self.view_is) (elim (cases_lt c.args.at v.len) [
      | inl l ↦ item ∙ sym (near-item v.edge v.none v.len v.near.items v.pages.items v.far.items c.args.at (omega (arith, c.if-at-self.true)))
          ∙ sym (within-item v.edge v.none v.len v.near.items v.pages.items v.far.items c.args.at l)
      | inr p ↦ item ∙ get_or_past v.near.items c.args.at v.none (omega (arith, below, p))
          ∙ sym (past-item v.edge v.none v.len v.near.items v.pages.items v.far.items c.args.at p)
    ])

pub returns-then-at-self-2 : goal.returns-then-at-self-2
returns-then-at-self-2 g c =
    let v = c.self.inside in
    rw (← c.self.view_is) (c.far_item.ensures v.none
    ∙ sym (far-item v.edge v.none v.len v.near.items v.pages.items v.far.items c.args.at (omega (arith, c.if-at-self.false)))
    ∙ sym (within-item v.edge v.none v.len v.near.items v.pages.items v.far.items c.args.at (omega (arith, c.if-at-self-2.true))))

pub returns : goal.returns
returns g c =
    let v = c.self.inside in
    rw (← c.self.view_is) (sym (past-item v.edge v.none v.len v.near.items v.pages.items v.far.items c.args.at (omega (arith, c.if-at-self-2.false))))
