use Rattle.q_logic.specs.Prelude.{first_of}
use Rattle.q_log.proofs.WritableRuns.{first-of}
use Rattle.q_expand.proofs.StepQueue.{delete-may, delete-took, delete-others}
use Rattle.q_expand.proofs.splitting.remove.Goals as goal

pub delete_implied-requires : goal.delete_implied-requires
delete_implied-requires c =
    let C = c.requires.live.0 in
    delete-may c.args.kernel.now c.args.c first_of C c.sound.ensures c.requires.live.1 (first-of C) (c.requires.steps C c.requires.live.1)

pub returns-clause-taken : goal.returns-clause-taken
returns-clause-taken c C e = delete-took c.args.kernel.now c.delete_implied.new.self c.args.c first_of C c.sound.ensures e (first-of C) (c.requires.steps C e) c.delete_implied.ensures

pub returns-clause-others : goal.returns-clause-others
returns-clause-others c = delete-others c.args.kernel.now c.delete_implied.new.self c.args.c first_of c.delete_implied.ensures
