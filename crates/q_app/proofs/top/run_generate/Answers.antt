use Rattle.std.proofs.Common.{inl}
use Rattle.q_command.proofs.FaultTurns.{at_once}
use Rattle.q_app.specs.Words.{generating}
use Rattle.q_app.proofs.CommandLines.{generate-read, generate-write}
use Rattle.q_command.specs.Devices.{devices}
use Rattle.q_command.proofs.ToldLaws.{runs}
use Rattle.q_app.proofs.FaultFree.{laws}
use Rattle.q_app.specs.Told.{told}
use Rattle.q_app.proofs.top.run_generate.Goals as goal

pub returns-clause-runs : goal.returns-clause-runs
returns-clause-runs g c =
    let o = c.generate_file.result in
    runs (told (generating c.args.scale c.args.output.now)) (laws (generating c.args.scale c.args.output.now)) o
    (devices g.F.Files g.S.Sink c.args.files.now c.args.out.now) (devices g.F.Files g.S.Sink c.generate_file.new.files c.say.new.out)
    c.say.result c.generate_file.ensures.generates c.say.ensures
    (λ e. absurd (generate-read o e)) (λ e. c.generate_file.ensures.write_fault (generate-write o e)) tt
    (λ e. absurd (generate-read o e)) (λ e. inl (at_once (g.F.Files.held c.args.files.now), c.generate_file.ensures.write_fault (generate-write o e)))

pub returns-clause-later : goal.returns-clause-later
returns-clause-later g c = record { read = c.generate_file.ensures.later.read; write = c.generate_file.ensures.later.write; sink = c.say.ensures.later.0 }
