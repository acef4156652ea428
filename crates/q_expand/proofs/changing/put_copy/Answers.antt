use Rattle.q_expand.proofs.StepQueue.{fresh-may, fresh-took}
use Rattle.q_expand.proofs.changing.put_copy.Goals as goal

pub fresh-requires : goal.fresh-requires
fresh-requires c = fresh-may c.args.kernel.now c.args.copy c.args.x c.sound.ensures c.requires

pub returns-clause-taken : goal.returns-clause-taken
returns-clause-taken c = fresh-took c.args.kernel.now c.fresh.new.self c.args.copy c.args.x c.sound.ensures c.requires c.fresh.ensures
