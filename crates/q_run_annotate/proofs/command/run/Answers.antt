use Rattle.std.proofs.Common.{inl}
use Rattle.q_command.specs.Devices.{devices}
use Rattle.q_command.proofs.FaultTurns.{at_once}
use Rattle.q_command.proofs.ToldLaws.{runs}
use Rattle.q_run_annotate.specs.Annotates.{files_of, told}
use Rattle.q_run_annotate.proofs.AnnotateStatus.{laws}
use Rattle.q_run_annotate.proofs.command.run.Goals as goal

pub returns : goal.returns
returns g c =
    runs (told (files_of c.args.names)) (laws (files_of c.args.names)) c.annotate_files.result
    (devices g.F.Files g.S.Sink c.args.files.now c.args.out.now) (devices g.F.Files g.S.Sink c.annotate_files.new.files c.say.new.out)
    c.say.result c.annotate_files.ensures.annotates c.say.ensures
    c.annotate_files.ensures.read_fault c.annotate_files.ensures.write_fault tt
    c.annotate_files.ensures.read_fault_at (λ e. inl (at_once (g.F.Files.held c.args.files.now), c.annotate_files.ensures.write_fault e))
