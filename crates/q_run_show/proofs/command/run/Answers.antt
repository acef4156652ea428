use Rattle.std.proofs.Common.{inl}
use Rattle.q_command.specs.Devices.{devices}
use Rattle.q_command.proofs.FaultTurns.{at_once}
use Rattle.q_command.proofs.ToldLaws.{runs}
use Rattle.q_run_show.specs.Shows.{files_of, told}
use Rattle.q_run_show.proofs.ShowStatus.{laws}
use Rattle.q_run_show.proofs.command.run.Goals as goal

pub returns : goal.returns
returns g c =
    runs (told (files_of c.args.names) c.args.binary c.args.part) (laws (files_of c.args.names) c.args.binary c.args.part) c.show_files.result
    (devices g.F.Files g.S.Sink c.args.files.now c.args.out.now) (devices g.F.Files g.S.Sink c.show_files.new.files c.say.new.out)
    c.say.result c.show_files.ensures.shows c.say.ensures
    c.show_files.ensures.read_fault c.show_files.ensures.write_fault tt
    c.show_files.ensures.read_fault_at (λ e. inl (at_once (g.F.Files.held c.args.files.now), c.show_files.ensures.write_fault e))
