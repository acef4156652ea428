use Rattle.q_command.specs.Devices.{devices}
use Rattle.q_command.proofs.ToldLaws.{runs}
use Rattle.q_run_disprove.specs.Disproofs.{files_of}
use Rattle.q_run_disprove.specs.SharedDisproofs.{told_part}
use Rattle.q_run_disprove.proofs.SharedStatus.{laws}
use Rattle.q_run_disprove.proofs.part.run_part.Goals as goal

pub returns : goal.returns
returns g c =
    runs (told_part (files_of c.args.names) c.args.binary c.args.part) (laws (files_of c.args.names) c.args.binary c.args.part) c.disprove_part.result
    (devices g.F.Files g.S.Sink c.args.files.now c.args.out.now) (devices g.F.Files g.S.Sink c.disprove_part.new.files c.say.new.out)
    c.say.result c.disprove_part.ensures.disproves c.say.ensures
    c.disprove_part.ensures.read_fault (λ e. absurd (c.disprove_part.ensures.write_fault e)) c.disprove_part.ensures.held
    c.disprove_part.ensures.read_fault_at (λ e. absurd (c.disprove_part.ensures.write_fault e))
