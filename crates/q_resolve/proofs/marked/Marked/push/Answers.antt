use Rattle.std.proofs.Common.{◌∙◌}
use Rattle.q_resolve.proofs.MarkChanges.{marked-pushed}
use Rattle.q_resolve.proofs.marked.Marked.push.Goals as goal

pub invariant_of-self-2 : goal.invariant_of-self-2
invariant_of-self-2 c =
    let put = rw c.index.ensures at c.in_ok-put.ensures.ok in
    rw (c.push_reserved.ensures.items, c.reserve.ensures.items) (
      marked-pushed c.self.inside.marks c.put.new.self c.self.inside.lits.items c.args.lit put c.self.invariant.0,
      put.none ∙ c.self.invariant.1,
    )
