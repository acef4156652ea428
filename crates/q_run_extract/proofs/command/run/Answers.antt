use Rattle.std.proofs.Common.{inl}
use Rattle.q_command.specs.Devices.{devices}
use Rattle.q_command.proofs.FaultTurns.{at_once}
use Rattle.q_command.proofs.ToldLaws.{runs}
use Rattle.q_run_extract.specs.Extracts.{files_of, told}
use Rattle.q_run_extract.proofs.ExtractStatus.{laws}
use Rattle.q_run_extract.proofs.command.run.Goals as goal

pub returns : goal.returns
returns g c =
    runs (told (files_of c.args.names)) (laws (files_of c.args.names)) c.extract_files.result
    (devices g.F.Files g.S.Sink c.args.files.now c.args.out.now) (devices g.F.Files g.S.Sink c.extract_files.new.files c.say.new.out)
    c.say.result c.extract_files.ensures.extracts c.say.ensures
    c.extract_files.ensures.read_fault c.extract_files.ensures.write_fault tt
    c.extract_files.ensures.read_fault_at (λ e. inl (at_once (g.F.Files.held c.args.files.now), c.extract_files.ensures.write_fault e))
