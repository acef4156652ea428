use Rattle.std.proofs.Common.{arith}
use Rattle.q_arena.proofs.ClauseWords.{clause-within, clauses-apart}
use Rattle.q_arena.proofs.ArenaView.{length-mapped}
use Rattle.q_arena.proofs.ClauseTotals.{live-count}
use Rattle.q_arena.specs.Seen.{clause_in}
use Rattle.q_arena.specs.Layout.{no_slot}
use Rattle.q_arena.proofs.arena.Arena.apart.Goals as goal

pub returns-clause-within : goal.returns-clause-within
returns-clause-within c = rw (← c.self.view_is) (clause-within c.self.inside.words.items c.self.inside.slots.items c.self.inside.ids c.self.inside.end c.self.inside.total c.self.invariant.laid)

pub returns-clause-apart : goal.returns-clause-apart
returns-clause-apart c = rw (← c.self.view_is) (clauses-apart c.self.inside.words.items c.self.inside.slots.items c.self.inside.ids c.self.inside.end c.self.inside.total c.self.invariant.laid)

pub returns-clause-few : goal.returns-clause-few
returns-clause-few c = rw (← c.self.view_is) (omega (arith, c.self.inside.words.ok.0))

pub returns-clause-ids : goal.returns-clause-ids
returns-clause-ids c =
    let i = c.self.inside in
    let live = live-count i.words.items i.slots.items i.ids i.end i.total c.self.invariant.laid in
    let len = length-mapped (clause_in i.words.items) no_slot i.slots.items in
    rw (← c.self.view_is) (omega (arith, live, len, c.self.invariant.laid.count))

pub returns-clause-few_ids : goal.returns-clause-few_ids
returns-clause-few_ids c =
    let i = c.self.inside in
    let len = length-mapped (clause_in i.words.items) no_slot i.slots.items in
    rw (← c.self.view_is) (omega (arith, len, c.self.invariant.laid.few))
