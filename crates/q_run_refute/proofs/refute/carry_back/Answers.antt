use Rattle.std.proofs.Common.{refl}
use Rattle.q_command.specs.Logs.{steps_of}
use Rattle.q_command.specs.Taken.{entries_of}
use Rattle.q_run_refute.proofs.refute.carry_back.Goals as goal

pub refute-requires : goal.refute-requires
refute-requires g c =
    (steps_of (entries_of c.args.checked.now.taken.items), c.requires.run refl, c.requires.reversals)
