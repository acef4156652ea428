use Rattle.q_command.specs.Names.{three_of}
use Rattle.q_command.proofs.OutcomeStatus.{check-read, check-write}
use Rattle.q_app.specs.Words.{checking}
use Rattle.q_command.specs.Devices.{devices}
use Rattle.q_command.proofs.ToldLaws.{runs}
use Rattle.q_app.proofs.FaultFree.{laws}
use Rattle.q_app.specs.Told.{told}
use Rattle.q_app.proofs.top.run_check.Goals as goal

pub returns-clause-runs : goal.returns-clause-runs
returns-clause-runs g c =
    let o = c.check.result in
    runs (told (checking (three_of c.args.names))) (laws (checking (three_of c.args.names))) o
    (devices g.F.Files g.S.Sink c.args.files.now c.args.out.now) (devices g.F.Files g.S.Sink c.check.new.files c.say.new.out)
    c.say.result c.check.ensures.checks c.say.ensures
    (λ e. c.check.ensures.fault (check-read o e)) (λ e. absurd (check-write o e)) c.check.ensures.only_reads.same
    (λ e. c.check.ensures.fault_at (check-read o e)) (λ e. absurd (check-write o e))

pub returns-clause-later : goal.returns-clause-later
returns-clause-later g c = record { read = c.check.ensures.only_reads.later.read; write = c.check.ensures.only_reads.later.write; sink = c.say.ensures.later.0 }
