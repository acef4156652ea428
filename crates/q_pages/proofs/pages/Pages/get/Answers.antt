use Rattle.std.proofs.Common.{arith, sym, ◌∙◌, ap, ℕ, ◌+◌, ◌*◌, ◌/◌, ◌%◌, ◌<◌, get_or, length, ◌≡◌}
use Rattle.std.proofs.lemmas.List.{get_or_default}
use Rattle.q_pages.specs.Tables.{page_of}
use Rattle.q_pages.proofs.PageEntries.{item-in, item-past}
use Rattle.q_pages.proofs.pages.Pages.get.Goals as goal

pub returns-then-at-len : goal.returns-then-at-len
returns-then-at-len g c =
    let none = c.self.inside.none in
    let pages = c.self.inside.pages.items in
    let items = c.self.inside.items.items in
    let k : c.args.at / 1024 < length pages = omega (arith, c.if-at-len.true, c.len.ensures) in
    let page : c.index.result.now ≡ page_of pages c.args.at = c.index.ensures ∙ get_or_default pages (c.args.at / 1024) c.index.result.now 0 k in
    let w = c.self.invariant.within (c.args.at / 1024) k in
    let place : page_of pages c.args.at * 1024 + c.args.at % 1024 < length items = omega (arith, w) in
    let e = c.index-then-at-len.ensures ∙ ap (λ (p : ℕ). get_or items (p * 1024 + c.args.at % 1024) c.index-then-at-len.result.now) page ∙ get_or_default items (page_of pages c.args.at * 1024 + c.args.at % 1024) c.index-then-at-len.result.now none place in
    rw (← c.self.view_is) (e ∙ sym (item-in none pages items c.args.at (omega (arith, k))))

pub returns-else-at-len : goal.returns-else-at-len
returns-else-at-len g c =
    rw (← c.self.view_is) (sym (item-past c.self.inside.none c.self.inside.pages.items c.self.inside.items.items c.args.at (omega (arith, c.if-at-len.false, c.len.ensures))))
