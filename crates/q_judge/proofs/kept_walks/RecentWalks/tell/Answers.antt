use Rattle.std.proofs.Common.{List, sym, subst}
use Rattle.q_logic.specs.Prelude.{IsIn}
use Rattle.q_logic.proofs.Common.{item-in}
use Rattle.q_judge.specs.Walks.{WalkMap, AreEnclosed}
use Rattle.q_judge.proofs.kept_walks.RecentWalks.tell.Goals as goal

pub returns-then-tells : goal.returns-then-tells
returns-then-tells c X t all =
    let was = subst (λ (Rs : List WalkMap). AreEnclosed c.args.scope.now X Rs) (sym c.self.view_is) all in
    let R = c.walk-item.result in
    c.tells.ensures X c.if-tells.true (was R (subst (λ (Rs : List WalkMap). IsIn R Rs) c.deref-walk-items.ensures.value (item-in c.deref-walk-items.result.now c.loop-walk.walk-index R c.loop-walk-test.true c.walk-item.is)))
