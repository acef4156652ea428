use Rattle.std.proofs.Common.{arith, ap, sym}
use Rattle.q_arena.specs.Layout.{slot_at}
use Rattle.q_arena.specs.Seen.{Clauses}
use Rattle.q_arena.proofs.Layouts.{size-top}
use Rattle.q_arena.proofs.FilledWords.{end-is, total-is}
use Rattle.q_arena.proofs.arena.Arena.dead.Goals as goal

pub overflow_sub-result : goal.overflow_sub-result
overflow_sub-result c =
    let s = size-top (slot_at c.self.inside.slots.items) c.self.inside.ids.used c.self.invariant.laid.stack in
    rw (c.self.invariant.laid.whole, c.self.invariant.laid.top) s

pub returns-clause-meaning : goal.returns-clause-meaning
returns-clause-meaning c =
    let i = c.self.inside in
    let clauses = ap (λ (v : Clauses). v.clauses) (sym c.self.view_is) in
    let starts = ap (λ (v : Clauses). v.starts) (sym c.self.view_is) in
    let laid = c.self.invariant.laid in
    let last = end-is i.words.items i.slots.items i.ids i.end i.total laid c.args.self.now clauses starts in
    let total = total-is i.words.items i.slots.items i.ids i.end i.total laid c.args.self.now clauses starts in
    let below = size-top (slot_at i.slots.items) i.ids.used laid.stack in
    (i.end, last, omega (arith, total, below, laid.whole, laid.top))
