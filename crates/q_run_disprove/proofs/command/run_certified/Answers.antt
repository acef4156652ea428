use Rattle.std.proofs.Common.{inl}
use Rattle.q_command.specs.Devices.{devices}
use Rattle.q_command.proofs.FaultTurns.{at_once}
use Rattle.q_command.proofs.ToldLaws.{runs}
use Rattle.q_run_disprove.specs.Certifying.{files_of, told}
use Rattle.q_run_disprove.proofs.CertifyStatus.{laws}
use Rattle.q_run_disprove.proofs.command.run_certified.Goals as goal

pub returns : goal.returns
returns g c =
    runs (told (files_of c.args.names) c.args.binary) (laws (files_of c.args.names) c.args.binary) c.certify_files.result
    (devices g.F.Files g.S.Sink c.args.files.now c.args.out.now) (devices g.F.Files g.S.Sink c.certify_files.new.files c.say.new.out)
    c.say.result c.certify_files.ensures.certifies c.say.ensures
    c.certify_files.ensures.read_fault c.certify_files.ensures.write_fault tt
    c.certify_files.ensures.read_fault_at (λ e. inl (at_once (g.F.Files.held c.args.files.now), c.certify_files.ensures.write_fault e))
