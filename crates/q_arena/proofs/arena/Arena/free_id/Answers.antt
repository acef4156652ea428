use Rattle.std.proofs.Common.{arith}
use Rattle.q_arena.proofs.ArenaView.{length-mapped}
use Rattle.q_arena.proofs.ClauseWords.{clause-free}
use Rattle.q_arena.specs.Seen.{clause_in}
use Rattle.q_arena.specs.Layout.{no_slot}
use Rattle.q_arena.proofs.arena.Arena.free_id.Goals as goal

pub overflow_cast-result : goal.overflow_cast-result
overflow_cast-result c =
    let i = c.self.inside in
    omega (arith, c.self.invariant.laid.frees c.free.result c.free.ensures, c.self.invariant.laid.few)

pub returns-clause-below : goal.returns-clause-below
returns-clause-below c =
    let i = c.self.inside in
    omega (arith, c.self.invariant.laid.frees c.free.result c.free.ensures, c.self.invariant.laid.few)

pub returns-clause-free : goal.returns-clause-free
returns-clause-free c =
    let i = c.self.inside in
    let n = length-mapped (clause_in i.words.items) no_slot i.slots.items in
    let f = c.self.invariant.laid.frees c.free.result c.free.ensures in
    rw (← c.self.view_is) (record { within = omega (arith, n, f.1); free = clause-free i.words.items i.slots.items c.free.result f.0 })
