use Rattle.q_logic.proofs.Common.{ok-iff}
use Rattle.q_prop.specs.Slots.{without}
use Rattle.q_judge.proofs.PivotOuters.{gathered-exact}
use Rattle.q_judge.proofs.pivots.resolves_group.Goals as goal

pub returns-clause-exact : goal.returns-clause-exact
returns-clause-exact c =
    ok-iff c.all_implied.result
    (gathered-exact c.args.scope.now (without c.args.store.now c.args.question.now.skip) c.args.question.now c.args.slots.now c.gather_outers.new.outers.tails (rw c.new-view.ensures at c.in_ok-gather_outers.ensures))
    c.all_implied.ensures.exact
