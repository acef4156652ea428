use Rattle.std.proofs.Common.{◌≡◌, ◌<◌, ◌≤◌, ◌*◌, ◌+◌, ◌/◌, ◌%◌, length, set, sym, ◌∙◌, ap, arith, inl, inr, length-set}
use Rattle.std.proofs.lemmas.List.{get_or_default}
use Rattle.q_pages.specs.Tables.{page_of}
use Rattle.q_pages.proofs.PageEntries.{sound-set, place-in}
use Rattle.q_sparse.proofs.SparseRows.{length-items, near-set, far-set, entry-set}
use Rattle.q_sparse.proofs.sparse.Sparse.set_first.Goals as goal

pub reach-requires-clause-at : goal.reach-requires-clause-at
reach-requires-clause-at g c =
    let v = c.self.inside in
    let n = length-items v.edge v.none v.len v.near.items v.pages.items v.far.items in
    let r = rw (← c.self.view_is) at c.requires in
    omega (arith, n, r, c.min.ensures, c.if-at-self.true)

pub make_page-requires-clause-page : goal.make_page-requires-clause-page
make_page-requires-clause-page g c =
    let v = c.self.inside in
    let n = length-items v.edge v.none v.len v.near.items v.pages.items v.far.items in
    let r = rw (← c.self.view_is) at c.requires in
    elim c.self.invariant.whole [
      | inl a ↦ absurd (omega (arith, a, n, r, c.if-at-self.false))
      | inr b ↦ omega (arith, b, n, r)
    ]

pub make_page-requires-clause-room : goal.make_page-requires-clause-room
make_page-requires-clause-room g c =
    let v = c.self.inside in
    let n = length-items v.edge v.none v.len v.near.items v.pages.items v.far.items in
    let r = rw (← c.self.view_is) at c.requires in
    elim c.self.invariant.whole [
      | inl a ↦ absurd (omega (arith, a, n, r, c.if-at-self.false))
      | inr b ↦ c.self.invariant.roomy_far (omega (arith, b, n, r))
    ]

pub invariant_of-self-else-at-self : goal.invariant_of-self-else-at-self
invariant_of-self-else-at-self g c =
    let v = c.self.inside in
    let i = c.self.invariant in
    let pages = c.make_page.new.pages.items in
    let far = c.make_page.new.far.items in
    let made = c.make_page.ensures in
    let n = length-items v.edge v.none v.len v.near.items v.pages.items v.far.items in
    let r = rw (← c.self.view_is) at c.requires in
    let il : c.args.at < v.len = omega (arith, n, r) in
    let old : c.args.at < 1024 * length v.pages.items = elim i.whole [
      | inl a ↦ absurd (omega (arith, a, il, c.if-at-self.false))
      | inr b ↦ omega (arith, b, il)
    ] in
    let len = made.pages in
    let ih : c.args.at < 1024 * length pages = omega (arith, old, len) in
    let page : c.index.result.now ≡ page_of pages c.args.at = c.index.ensures ∙ get_or_default pages (c.args.at / 1024) c.index.result.now 0 (omega (arith, ih)) in
    rw page (record {
      within = i.within;
      few_near = i.few_near;
      roomy_near = i.roomy_near;
      sound = sound-set v.none pages far made.sound c.args.at c.args.value ih made.made;
      whole = inr (elim i.whole [
        | inl a ↦ absurd (omega (arith, a, il, c.if-at-self.false))
        | inr b ↦ omega (arith, b, len)
      ]);
      long = (let l = made.long in omega (arith, l, length-set far (page_of pages c.args.at * 1024 + c.args.at % 1024) c.args.value));
      roomy_far = λ h. (let o = i.roomy_far (omega (arith, old)) in let k = made.room in omega (arith, o, k, len));
      beyond = λ j jh jn. entry-set v.none pages far made.sound c.args.at c.args.value ih made.made j (λ e. absurd (omega (arith, e, jh, il)))
          ∙ made.same j ∙ i.beyond j jh jn;
      few = i.few;
      all = i.all;
      wide = i.wide;
    })

pub returns-then-at-self-clause-items : goal.returns-then-at-self-clause-items
returns-then-at-self-clause-items g c =
    let v = c.self.inside in
    let n = length-items v.edge v.none v.len v.near.items v.pages.items v.far.items in
    let r = rw (← c.self.view_is) at c.requires in
    rw (← c.self.view_is) (near-set v.edge v.none v.len v.near.items c.reach.new.near.items v.pages.items v.far.items c.args.at c.args.value
    c.reach.ensures.same c.reach.ensures.at (omega (arith, c.if-at-self.true)) (omega (arith, n, r)))

pub returns-else-at-self-clause-items : goal.returns-else-at-self-clause-items
returns-else-at-self-clause-items g c =
    let v = c.self.inside in
    let i = c.self.invariant in
    let pages = c.make_page.new.pages.items in
    let far = c.make_page.new.far.items in
    let made = c.make_page.ensures in
    let n = length-items v.edge v.none v.len v.near.items v.pages.items v.far.items in
    let r = rw (← c.self.view_is) at c.requires in
    let il : c.args.at < v.len = omega (arith, n, r) in
    let len = made.pages in
    let ih : c.args.at < 1024 * length pages = elim i.whole [
      | inl a ↦ absurd (omega (arith, a, il, c.if-at-self.false))
      | inr b ↦ omega (arith, b, il, len)
    ] in
    let page : c.index.result.now ≡ page_of pages c.args.at = c.index.ensures ∙ get_or_default pages (c.args.at / 1024) c.index.result.now 0 (omega (arith, ih)) in
    rw (page, ← c.self.view_is) (far-set v.edge v.none v.len v.near.items v.pages.items pages v.far.items far made.sound c.args.at c.args.value ih made.made made.same il (omega (arith, c.if-at-self.false)))
