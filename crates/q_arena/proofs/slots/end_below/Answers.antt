use Rattle.std.proofs.Common.{sym, ◌∙◌, ap}
use Rattle.q_arena.specs.Layout.{slot_at, below, end_in}
use Rattle.q_arena.proofs.Layouts.{top-end, following-below, Has-below'}
use Rattle.q_arena.proofs.ListNeighbours.{get-has}
use Rattle.q_arena.proofs.slots.end_below.Goals as goal

pub end_at-requires-clause-there : goal.end_at-requires-clause-there
end_at-requires-clause-there c = λ i e.
    let f = sym (following-below c.args.at c.args.ids.now.used c.requires.at) ∙ sym c.before-2.ensures ∙ e in
    c.requires.used i (Has-below' c.args.at i c.args.ids.now.used (get-has _ 0 i f))

pub end_at-requires-clause-fits : goal.end_at-requires-clause-fits
end_at-requires-clause-fits c =
    rw (c.before-2.ensures, following-below c.args.at c.args.ids.now.used c.requires.at, ← top-end (slot_at c.args.slots.now.items) (below c.args.at c.args.ids.now.used)) c.requires.fits

pub returns : goal.returns
returns c =
    let s = slot_at c.args.slots.now.items in
    c.end_at.ensures ∙ ap (end_in s) (c.before-2.ensures ∙ following-below c.args.at c.args.ids.now.used c.requires.at) ∙ sym (top-end s (below c.args.at c.args.ids.now.used))
