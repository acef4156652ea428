use Rattle.q_logic.proofs.Common.{ok-iff}
use Rattle.q_judge.proofs.PivotOuters.{resolve-holders}
use Rattle.q_judge.proofs.pivots.resolves.Goals as goal

pub returns-clause-exact : goal.returns-clause-exact
returns-clause-exact c =
    ok-iff c.resolves_all.result
    (resolve-holders c.args.scope.now c.args.store.now c.args.question.now c.collect_holders.new.slots.items c.in_ok-collect_holders.ensures)
    (rw c.deref.ensures.value at c.resolves_all.ensures.exact)
