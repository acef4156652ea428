use Rattle.std.proofs.Common.{sym, ◌∙◌, ap}
use Rattle.q_arena.specs.Layout.{slot_at, end_in}
use Rattle.q_arena.proofs.Layouts.{top-end}
use Rattle.q_arena.proofs.ListNeighbours.{get-has}
use Rattle.q_arena.proofs.slots.end_of.Goals as goal

pub end_at-requires-clause-there : goal.end_at-requires-clause-there
end_at-requires-clause-there c = λ i e. c.requires.used i (get-has _ 0 i (sym c.last.ensures ∙ e))

pub end_at-requires-clause-fits : goal.end_at-requires-clause-fits
end_at-requires-clause-fits c = rw (c.last.ensures, ← top-end (slot_at c.args.slots.now.items) c.args.ids.now.used) c.requires.fits

pub returns : goal.returns
returns c = c.end_at.ensures ∙ ap (end_in (slot_at c.args.slots.now.items)) c.last.ensures ∙ sym (top-end (slot_at c.args.slots.now.items) c.args.ids.now.used)
