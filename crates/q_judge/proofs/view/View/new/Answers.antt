use Rattle.q_judge.proofs.LeftOut.{closed-left}
use Rattle.q_judge.proofs.view.View.new.Goals as goal

pub invariant_of-result : goal.invariant_of-result
invariant_of-result c = closed-left c.args.scope.now c.args.store.now c.args.skip c.requires
