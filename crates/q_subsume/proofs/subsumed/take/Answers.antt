use Rattle.q_logic.specs.UsualBounds.{usual}
use Rattle.q_rule.proofs.TargetChanges.{change-clause}
use Rattle.q_subsume.proofs.SubsumeChanges.{may-go_subsumed, changed-subsumed}
use Rattle.q_subsume.proofs.subsumed.take.Goals as goal

pub delete_implied-requires : goal.delete_implied-requires
delete_implied-requires c =
    let k = c.args.kernel.now in
    let f = c.requires.fits usual in
    may-go_subsumed k c.args.c c.args.d f.0 f.1 c.sound.ensures f.2 f.3 f.4 f.5 (change-clause k c.args.d f.1 f.4 c.requires.bytes)

pub returns : goal.returns
returns c = changed-subsumed c.args.kernel.now c.delete_implied.new.self c.args.c c.args.d c.sound.ensures c.requires.limits c.requires.bytes c.delete_implied.ensures
