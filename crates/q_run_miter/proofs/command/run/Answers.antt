use Rattle.std.proofs.Common.{inl}
use Rattle.q_command.specs.Devices.{devices}
use Rattle.q_command.proofs.FaultTurns.{at_once}
use Rattle.q_command.proofs.ToldLaws.{runs}
use Rattle.q_run_miter.specs.Mitering.{files_of, told}
use Rattle.q_run_miter.proofs.MiterStatus.{laws}
use Rattle.q_run_miter.proofs.command.run.Goals as goal

pub returns : goal.returns
returns g c =
    runs (told (files_of c.args.names) c.args.side) (laws (files_of c.args.names) c.args.side) c.miter_files.result
    (devices g.F.Files g.S.Sink c.args.files.now c.args.out.now) (devices g.F.Files g.S.Sink c.miter_files.new.files c.say.new.out)
    c.say.result c.miter_files.ensures.miters c.say.ensures
    c.miter_files.ensures.read_fault c.miter_files.ensures.write_fault tt
    c.miter_files.ensures.read_fault_at (λ e. inl (at_once (g.F.Files.held c.args.files.now), c.miter_files.ensures.write_fault e))
