use Rattle.q_command.specs.Names.{three_of}
use Rattle.q_command.proofs.OutcomeStatus.{check-read, check-write}
use Rattle.q_app.specs.Words.{sharing}
use Rattle.q_command.specs.Devices.{devices}
use Rattle.q_command.proofs.ToldLaws.{runs}
use Rattle.q_app.proofs.FaultFree.{laws}
use Rattle.q_app.specs.Told.{told}
use Rattle.q_app.proofs.top.run_share.Goals as goal

pub returns : goal.returns
returns g c =
    let o = c.check_part.result in
    runs (told (sharing (three_of c.args.names) c.args.part)) (laws (sharing (three_of c.args.names) c.args.part)) o
    (devices g.F.Files g.S.Sink c.args.files.now c.args.out.now) (devices g.F.Files g.S.Sink c.check_part.new.files c.say.new.out)
    c.say.result c.check_part.ensures.checks c.say.ensures
    (λ e. c.check_part.ensures.fault (check-read o e)) (λ e. absurd (check-write o e)) c.check_part.ensures.only_reads.same
    (λ e. c.check_part.ensures.fault_at (check-read o e)) (λ e. absurd (check-write o e))
