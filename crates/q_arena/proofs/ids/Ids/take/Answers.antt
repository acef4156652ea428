use Rattle.q_arena.proofs.Layouts.{gone}
use Rattle.q_arena.proofs.ids.Ids.take.Goals as goal

pub push_front-requires-clause-fresh : goal.push_front-requires-clause-fresh
push_front-requires-clause-fresh c =
    let there = rw (← c.self.view_is) at c.requires in
    rw c.remove.ensures.lists (gone c.self.inside.lists.lists 1 c.args.id c.distinct.ensures.apart c.distinct.ensures.one there)
