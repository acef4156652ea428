use Rattle.q_command.specs.Devices.{devices}
use Rattle.q_command.proofs.ToldLaws.{runs}
use Rattle.q_run_disprove.specs.Disproofs.{files_of}
use Rattle.q_run_disprove.specs.HintedDisproofs.{told}
use Rattle.q_run_disprove.proofs.DisproveStatus.{laws}
use Rattle.q_run_disprove.proofs.command.run.Goals as goal

pub returns : goal.returns
returns g c =
    runs (told (files_of c.args.names) c.args.binary) (laws (files_of c.args.names) c.args.binary) c.disprove_files.result
    (devices g.F.Files g.S.Sink c.args.files.now c.args.out.now) (devices g.F.Files g.S.Sink c.disprove_files.new.files c.say.new.out)
    c.say.result c.disprove_files.ensures.disproves c.say.ensures
    c.disprove_files.ensures.read_fault (λ e. absurd (c.disprove_files.ensures.write_fault e)) c.disprove_files.ensures.held
    c.disprove_files.ensures.read_fault_at (λ e. absurd (c.disprove_files.ensures.write_fault e))
