use Rattle.std.proofs.Common.{inl}
use Rattle.q_command.proofs.FaultTurns.{at_once}
use Rattle.q_app.specs.Commands.{five_of}
use Rattle.q_app.specs.Words.{rebuilding}
use Rattle.q_app.proofs.CommandLines.{rebuild-read, rebuild-write}
use Rattle.q_command.specs.Devices.{devices}
use Rattle.q_command.proofs.ToldLaws.{runs}
use Rattle.q_app.proofs.FaultFree.{laws}
use Rattle.q_app.specs.Told.{told}
use Rattle.q_app.proofs.top.run_rebuild.Goals as goal

pub returns : goal.returns
returns g c =
    let o = c.rebuild_files.result in
    runs (told (rebuilding (five_of c.args.names))) (laws (rebuilding (five_of c.args.names))) o
    (devices g.F.Files g.S.Sink c.args.files.now c.args.out.now) (devices g.F.Files g.S.Sink c.rebuild_files.new.files c.say.new.out)
    c.say.result c.rebuild_files.ensures.rebuilds c.say.ensures
    (λ e. c.rebuild_files.ensures.read_fault (rebuild-read o e)) (λ e. c.rebuild_files.ensures.write_fault (rebuild-write o e)) tt
    (λ e. c.rebuild_files.ensures.read_fault_at (rebuild-read o e)) (λ e. inl (at_once (g.F.Files.held c.args.files.now), c.rebuild_files.ensures.write_fault (rebuild-write o e)))
