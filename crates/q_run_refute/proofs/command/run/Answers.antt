use Rattle.std.proofs.Common.{inl}
use Rattle.q_command.specs.Devices.{devices}
use Rattle.q_command.proofs.FaultTurns.{at_once}
use Rattle.q_command.proofs.ToldLaws.{runs}
use Rattle.q_run_refute.specs.Refutes.{files_of, told}
use Rattle.q_run_refute.proofs.RefuteStatus.{laws}
use Rattle.q_run_refute.proofs.command.run.Goals as goal

pub returns : goal.returns
returns g c =
    runs (told (files_of c.args.names)) (laws (files_of c.args.names)) c.refute_files.result
    (devices g.F.Files g.S.Sink c.args.files.now c.args.out.now) (devices g.F.Files g.S.Sink c.refute_files.new.files c.say.new.out)
    c.say.result c.refute_files.ensures.refutes c.say.ensures
    c.refute_files.ensures.read_fault c.refute_files.ensures.write_fault tt
    c.refute_files.ensures.read_fault_at (λ e. inl (at_once (g.F.Files.held c.args.files.now), c.refute_files.ensures.write_fault e))
