use Rattle.std.proofs.Common.{arith, sym, ◌∙◌, ap, subst, ℕ, ◌≡◌, refl}
use Rattle.std.proofs.lemmas.Result.{on_ok_weaker}
use Rattle.q_pages.specs.Rows.{Row, IsMade, item_at, KeepsPages}
use Rattle.q_pages.specs.Layout.{row_of}
use Rattle.q_pages.proofs.PageEntries.{length-row, row-filled, row-extended, made-extended, sound-filled}
use Rattle.q_pages.proofs.pages.Pages.grow.Goals as goal

pub returns-clause-len : goal.returns-clause-len
returns-clause-len g c =
    let n = length-row c.self.inside.none c.extend.new.pages.items c.fill.new.items.items in
    on_ok_weaker c.extend.result (λ h. omega (arith, n, h)) c.extend.ensures.end

pub returns-clause-kept : goal.returns-clause-kept
returns-clause-kept g c =
    let none = c.self.inside.none in
    let pages = c.self.inside.pages.items in
    let items = c.self.inside.items.items in
    let more = c.extend.new.pages.items in
    let filled = c.fill.new.items.items in
    let s = sound-filled none pages items filled c.self.invariant c.fill.ensures.kept c.fill.ensures.same in
    let n = length-row none pages items in
    let m = length-row none more filled in
    let same = row-filled none pages items filled c.self.invariant c.fill.ensures.kept c.fill.ensures.same in
    subst (λ (r : Row g.row.T.Denot). KeepsPages r (row_of none more filled)) c.self.view_is (record {
      none = refl;
      length = omega (arith, n, m, c.extend.ensures.kept);
      made = λ i h. made-extended none pages more filled s c.extend.ensures.kept c.extend.ensures.same i (subst (λ (r : Row g.row.T.Denot). IsMade r i) (sym same) h);
    })

pub returns-clause-items : goal.returns-clause-items
returns-clause-items g c =
    let none = c.self.inside.none in
    let pages = c.self.inside.pages.items in
    let items = c.self.inside.items.items in
    let more = c.extend.new.pages.items in
    let filled = c.fill.new.items.items in
    let s = sound-filled none pages items filled c.self.invariant c.fill.ensures.kept c.fill.ensures.same in
    let same = row-filled none pages items filled c.self.invariant c.fill.ensures.kept c.fill.ensures.same in
    subst (λ (r : Row g.row.T.Denot). (i : ℕ) → item_at (row_of none more filled) i ≡ item_at r i) c.self.view_is
    (λ i. row-extended none pages more filled s c.extend.ensures.kept c.extend.ensures.same i ∙ ap (λ (r : Row g.row.T.Denot). item_at r i) same)
