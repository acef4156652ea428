use Rattle.q_judge.specs.Walks.{WalkMap}
use Rattle.q_judge.proofs.KeptWalks.{enclosed-shut, inside-reducible}
use Rattle.q_judge.proofs.kept_walks.Walk.tells.Goals as goal

pub has_inner-requires-clause-bound : goal.has_inner-requires-clause-bound
has_inner-requires-clause-bound c = c.requires.within c.args.lit c.requires.held

pub returns-then-is_for : goal.returns-then-is_for
returns-then-is_for c X t all =
    let i = c.self.inside in
    let P = c.args.scope.now in
    let R : WalkMap = record { literal = i.lit; known = i.known } in
    let e = rw (← c.self.view_is) at c.is_for.ensures c.if-is_for.true in
    inside-reducible P X c.args.clause.now c.args.lit i.known c.requires.not_negated (c.has_inner.ensures t) (enclosed-shut P X R c.args.lit e c.requires.universal (rw (← c.self.view_is) at all)) c.requires.universal c.requires.held
