use Rattle.std.proofs.Common.{◌≡◌, ◌+◌, ◌<◌, ℕ, ap, arith, drop, length, get_or, List}
use Rattle.q_logic.specs.Prelude.{Clause, Slots, slot, clauses_at, size_of}
use Rattle.q_kernel.specs.Prelude.{slots}
use Rattle.q_eliminate.proofs.IdWalks.{at-next, at-end, live-at}
use Rattle.q_eliminate.proofs.sides.weight.Goals as goal

pub lits-requires : goal.lits-requires
lits-requires c = live-at (slots c.args.kernel.now) c.args.ids.now c.loop-id.id-index c.requires.live c.loop-id-test.true

sum-next : (N : Slots) (ids : List ℕ) (i sum : ℕ) (C : Clause) → i < length ids → slot N (get_or ids i 0) ≡ Rattle.std.proofs.Common.Some C → sum + size_of (clauses_at N (drop i ids)) ≡ size_of (clauses_at N ids)
    → sum + (length C + 1) + size_of (clauses_at N (drop (i + 1) ids)) ≡ size_of (clauses_at N ids)
sum-next N ids i sum C h e s = let z = ap size_of (at-next N ids i C h e) in omega arith

pub overflow_add-sum : goal.overflow_add-sum
overflow_add-sum c =
    let n = sum-next (slots c.args.kernel.now) c.args.ids.now c.loop-id.id-index c.loop-id.sum c.lits.result.now c.loop-id-test.true c.lits.ensures.clause c.loop-id.invariant in
    let s = c.requires.small in omega arith

pub loop-id-preserved : goal.loop-id-preserved
loop-id-preserved c = sum-next (slots c.args.kernel.now) c.args.ids.now c.loop-id.id-index c.loop-id.sum c.lits.result.now c.loop-id-test.true c.lits.ensures.clause c.loop-id.invariant

pub returns : goal.returns
returns c = let z = ap size_of (at-end (slots c.args.kernel.now) c.args.ids.now c.loop-id.id-index c.loop-id-test.false) in let i = c.loop-id.invariant in omega arith
