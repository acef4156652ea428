use Rattle.q_logic.specs.UsualBounds.{usual}
use Rattle.q_subsume.proofs.SubsumeChanges.{may-shrink_turned, changed-strengthen, change-shrink}
use Rattle.q_subsume.proofs.strengthen.take.Goals as goal

pub shrink-requires : goal.shrink-requires
shrink-requires c =
    let k = c.args.kernel.now in
    let f = c.requires.fits usual in
    may-shrink_turned k c.args.c c.args.d f.0 f.1 c.sound.ensures f.2 f.3 f.4 c.args.l f.6 (record { held = f.5; rest = f.7 }) c.requires.limits (change-shrink k c.args.d f.1 f.4 c.requires.bytes)

pub returns : goal.returns
returns c = changed-strengthen c.args.kernel.now c.shrink.new.self c.args.c c.args.d c.args.l c.sound.ensures c.requires.limits c.requires.bytes c.shrink.ensures
