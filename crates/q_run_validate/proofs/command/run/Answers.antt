use Rattle.q_command.specs.Devices.{devices}
use Rattle.q_command.proofs.ToldLaws.{runs}
use Rattle.q_run_validate.specs.Validates.{files_of, told}
use Rattle.q_run_validate.proofs.ValidateStatus.{laws}
use Rattle.q_run_validate.proofs.command.run.Goals as goal

pub returns : goal.returns
returns g c =
    runs (told (files_of c.args.names) c.args.budget) (laws (files_of c.args.names) c.args.budget) c.validate_files.result
    (devices g.F.Files g.S.Sink c.args.files.now c.args.out.now) (devices g.F.Files g.S.Sink c.validate_files.new.files c.say.new.out)
    c.say.result c.validate_files.ensures.validates c.say.ensures
    c.validate_files.ensures.read_fault (λ e. absurd (c.validate_files.ensures.write_fault e)) c.validate_files.ensures.held
    c.validate_files.ensures.read_fault_at (λ e. absurd (c.validate_files.ensures.write_fault e))
