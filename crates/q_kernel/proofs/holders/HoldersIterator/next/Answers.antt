use Rattle.std.proofs.Common.{length, ap, rules}
use Rattle.q_kernel.proofs.HolderLists.{walk-steps}
use Rattle.q_kernel.proofs.holders.HoldersIterator.next.Goals as goal

pub owner-id-requires : goal.owner-id-requires
owner-id-requires c = (c.self.inside.lit, c.self.invariant.there c.in_ok-place.place c.in_ok-place.was)

pub returns-clause-steps : goal.returns-clause-steps
returns-clause-steps c =
    let h = c.self.inside in
    let p = c.in_ok-place.place in
    rw (← c.self.view_is) (walk-steps h.kernel.now h.lit h.at c.next-self-inside.result p c.owner-id.result c.self.invariant c.in_ok-place.was c.owner-id.ensures.value (c.next-self-inside.ensures.next h.lit (c.self.invariant.there p c.in_ok-place.was)))

pub returns-clause-goes : goal.returns-clause-goes
returns-clause-goes c = let shorter = ap length (returns-clause-steps c) in search rules
