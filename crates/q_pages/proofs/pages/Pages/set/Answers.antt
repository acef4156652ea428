use Rattle.std.proofs.Common.{arith, sym, ◌∙◌, subst, ◌/◌, ◌<◌, length, ◌≡◌}
use Rattle.std.proofs.lemmas.List.{get_or_default}
use Rattle.q_pages.specs.Rows.{Row, IsMade}
use Rattle.q_pages.specs.Tables.{page_of}
use Rattle.q_pages.proofs.PageEntries.{made-in, place-in, sound-set, items-set}
use Rattle.q_pages.proofs.pages.Pages.set.Goals as goal

pub index_mut-requires : goal.index_mut-requires
index_mut-requires g c =
    let none = c.self.inside.none in
    let pages = c.self.inside.pages.items in
    let items = c.self.inside.items.items in
    let m = made-in none pages items c.args.at (subst (λ (r : Row g.row.T.Denot). IsMade r c.args.at) (sym c.self.view_is) c.requires) in
    let k : c.args.at / 1024 < length pages = (let a = m.0 in omega arith) in
    let page : c.index.result.now ≡ page_of pages c.args.at = c.index.ensures ∙ get_or_default pages (c.args.at / 1024) c.index.result.now 0 k in
    let p = place-in none pages items c.self.invariant c.args.at c.args.value m.0 m.1 in
    omega (arith, p, page, c.self.inside.items.ok.0)

pub invariant_of-self : goal.invariant_of-self
invariant_of-self g c =
    let none = c.self.inside.none in
    let pages = c.self.inside.pages.items in
    let items = c.self.inside.items.items in
    let m = made-in none pages items c.args.at (subst (λ (r : Row g.row.T.Denot). IsMade r c.args.at) (sym c.self.view_is) c.requires) in
    let k : c.args.at / 1024 < length pages = (let a = m.0 in omega arith) in
    let page : c.index.result.now ≡ page_of pages c.args.at = c.index.ensures ∙ get_or_default pages (c.args.at / 1024) c.index.result.now 0 k in
    rw page (sound-set none pages items c.self.invariant c.args.at c.args.value m.0 m.1)

pub returns-clause-items : goal.returns-clause-items
returns-clause-items g c =
    let none = c.self.inside.none in
    let pages = c.self.inside.pages.items in
    let items = c.self.inside.items.items in
    let m = made-in none pages items c.args.at (subst (λ (r : Row g.row.T.Denot). IsMade r c.args.at) (sym c.self.view_is) c.requires) in
    let k : c.args.at / 1024 < length pages = (let a = m.0 in omega arith) in
    let page : c.index.result.now ≡ page_of pages c.args.at = c.index.ensures ∙ get_or_default pages (c.args.at / 1024) c.index.result.now 0 k in
    rw (page, ← c.self.view_is) (items-set none pages items c.self.invariant c.args.at c.args.value m.0 m.1)
