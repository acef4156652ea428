use Rattle.std.proofs.Common.{arith, sym, ◌∙◌, ap, subst, ℕ, ◌*◌, ◌/◌, ◌<◌, get_or, set, length, ◌≡◌, refl}
use Rattle.std.proofs.lemmas.List.{length-set, get_or_default}
use Rattle.q_pages.specs.Rows.{Row, IsMade, KeepsPages}
use Rattle.q_pages.specs.Layout.{row_of}
use Rattle.q_pages.specs.Tables.{page_of}
use Rattle.q_pages.proofs.PageEntries.{length-row, in-made, sound-filled, row-filled, items-made, made-made, now-made}
use Rattle.q_pages.proofs.pages.Pages.make.Goals as goal

pub index-requires : goal.index-requires
index-requires g c =
    let n = length-row c.self.inside.none c.self.inside.pages.items c.self.inside.items.items in
    omega (arith, n, rw (← c.self.view_is) at c.requires, c.self.inside.pages.ok.0)

pub returns-then-index-ne0-clause-made : goal.returns-then-index-ne0-clause-made
returns-then-index-ne0-clause-made g c =
    let none = c.self.inside.none in
    let pages = c.self.inside.pages.items in
    let items = c.self.inside.items.items in
    let n = length-row none pages items in
    let ih : c.args.at < 1024 * length pages = omega (arith, n, rw (← c.self.view_is) at c.requires) in
    let page : c.index.result.now ≡ page_of pages c.args.at = c.index.ensures ∙ get_or_default pages (c.args.at / 1024) c.index.result.now 0 (omega (arith, ih)) in
    rw (← c.self.view_is) (in-made none pages items c.args.at ih (omega (arith, page, c.if-index-ne0.true)))

pub index_mut-requires : goal.index_mut-requires
index_mut-requires g c =
    let n = length-row c.self.inside.none c.self.inside.pages.items c.self.inside.items.items in
    omega (arith, n, rw (← c.self.view_is) at c.requires, c.self.inside.pages.ok.0)

pub returns-clause-made : goal.returns-clause-made
returns-clause-made g c =
    let none = c.self.inside.none in
    let pages = c.self.inside.pages.items in
    let items = c.self.inside.items.items in
    let filled = c.fill.new.items.items in
    let n = length-row none pages items in
    let ih : c.args.at < 1024 * length pages = omega (arith, n, rw (← c.self.view_is) at c.requires) in
    let kh : c.args.at / 1024 < length pages = omega (arith, ih) in
    let was : get_or pages (c.args.at / 1024) 0 ≡ 0 = sym (get_or_default pages (c.args.at / 1024) c.index.result.now 0 kh) ∙ sym c.index.ensures ∙ omega (arith, c.if-index-ne0.false) in
    let w = c.self.invariant.within (c.args.at / 1024) kh in
    let s = sound-filled none pages items filled c.self.invariant c.fill.ensures.kept c.fill.ensures.same in
    let number : c.len-page.result ≡ length items = omega (arith, c.len-page.ensures, c.self.inside.items.ok.0) in
    let q : ℕ = c.len-page.result / 1024 in
    now-made none pages filled s (c.args.at / 1024) q kh was (omega (arith, w, number))
    (λ l lh. let v = c.self.invariant.within l lh in omega (arith, v, number))
    (omega (arith, c.in_ok-fill.ensures.end)) c.args.at refl

pub returns-clause-kept : goal.returns-clause-kept
returns-clause-kept g c =
    let none = c.self.inside.none in
    let pages = c.self.inside.pages.items in
    let items = c.self.inside.items.items in
    let filled = c.fill.new.items.items in
    let n = length-row none pages items in
    let ih : c.args.at < 1024 * length pages = omega (arith, n, rw (← c.self.view_is) at c.requires) in
    let kh : c.args.at / 1024 < length pages = omega (arith, ih) in
    let was : get_or pages (c.args.at / 1024) 0 ≡ 0 = sym (get_or_default pages (c.args.at / 1024) c.index.result.now 0 kh) ∙ sym c.index.ensures ∙ omega (arith, c.if-index-ne0.false) in
    let w = c.self.invariant.within (c.args.at / 1024) kh in
    let s = sound-filled none pages items filled c.self.invariant c.fill.ensures.kept c.fill.ensures.same in
    let number : c.len-page.result ≡ length items = omega (arith, c.len-page.ensures, c.self.inside.items.ok.0) in
    let q : ℕ = c.len-page.result / 1024 in
    let m = length-row none (set pages (c.args.at / 1024) q) filled in
    let same = row-filled none pages items filled c.self.invariant c.fill.ensures.kept c.fill.ensures.same in
    subst (λ (r : Row g.row.T.Denot). KeepsPages r (row_of none (set pages (c.args.at / 1024) q) filled)) c.self.view_is (record {
      none = refl;
      length = omega (arith, n, m, length-set pages (c.args.at / 1024) q);
      made = λ i h. made-made none pages filled s (c.args.at / 1024) q kh was (omega (arith, w, number))
          (λ l lh. let v = c.self.invariant.within l lh in omega (arith, v, number))
          (omega (arith, c.in_ok-fill.ensures.end)) i (subst (λ (r : Row g.row.T.Denot). IsMade r i) (sym same) h);
    })

pub returns-clause-items : goal.returns-clause-items
returns-clause-items g c =
    let none = c.self.inside.none in
    let pages = c.self.inside.pages.items in
    let items = c.self.inside.items.items in
    let filled = c.fill.new.items.items in
    let n = length-row none pages items in
    let ih : c.args.at < 1024 * length pages = omega (arith, n, rw (← c.self.view_is) at c.requires) in
    let kh : c.args.at / 1024 < length pages = omega (arith, ih) in
    let was : get_or pages (c.args.at / 1024) 0 ≡ 0 = sym (get_or_default pages (c.args.at / 1024) c.index.result.now 0 kh) ∙ sym c.index.ensures ∙ omega (arith, c.if-index-ne0.false) in
    let w = c.self.invariant.within (c.args.at / 1024) kh in
    let s = sound-filled none pages items filled c.self.invariant c.fill.ensures.kept c.fill.ensures.same in
    let number : c.len-page.result ≡ length items = omega (arith, c.len-page.ensures, c.self.inside.items.ok.0) in
    let same = row-filled none pages items filled c.self.invariant c.fill.ensures.kept c.fill.ensures.same in
    rw (← c.self.view_is) (items-made none pages filled s (c.args.at / 1024) (c.len-page.result / 1024) kh was (omega (arith, w, number))
    (λ l lh. let v = c.self.invariant.within l lh in omega (arith, v, number))
    (omega (arith, c.in_ok-fill.ensures.end)) ∙ ap (λ (r : Row g.row.T.Denot). r.items) same)
