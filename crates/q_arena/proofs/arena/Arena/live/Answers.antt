use Rattle.std.proofs.Common.{sym, ◌∙◌, ap}
use Rattle.q_arena.specs.Layout.{slot_at}
use Rattle.q_arena.specs.Seen.{piece}
use Rattle.q_arena.proofs.ClauseWords.{live-of, clause-live}
use Rattle.q_arena.proofs.arena.Arena.live.Goals as goal

pub returns : goal.returns
returns c =
    let i = c.self.inside in
    let e = ap (λ k. k.live) c.slot_of.ensures in
    rw (← c.self.view_is) (
      λ t. (piece i.words.items (slot_at i.slots.items c.args.id).start (slot_at i.slots.items c.args.id).len, clause-live i.words.items i.slots.items c.args.id (sym e ∙ t)),
      λ x. e ∙ live-of i.words.items i.slots.items c.args.id x.0 x.1,
    )
