use Rattle.q_judge.specs.Walks.{WalkMap}
use Rattle.q_judge.proofs.KeptWalks.{enclosed-more}
use Rattle.q_judge.proofs.kept_walks.Walk.take.Goals as goal

pub returns-else-not-bears : goal.returns-else-not-bears
returns-else-not-bears c X all =
    let i = c.self.inside in
    let R : WalkMap = record { literal = i.lit; known = i.known } in
    let was = rw (← c.self.view_is) at all in
    rw (← c.self.view_is) (enclosed-more c.args.scope.now X R c.args.clause.now (c.bears.ensures c.if-not-bears.false) was)
