use Rattle.std.proofs.Common.{inl}
use Rattle.q_command.specs.Devices.{devices}
use Rattle.q_command.proofs.FaultTurns.{at_once}
use Rattle.q_command.proofs.ToldLaws.{runs}
use Rattle.q_run_solve.specs.Solves.{files_of, told}
use Rattle.q_run_solve.proofs.SolveStatus.{laws}
use Rattle.q_run_solve.proofs.command.run.Goals as goal

pub returns : goal.returns
returns g c =
    runs (told (files_of c.args.names) c.args.budget) (laws (files_of c.args.names) c.args.budget) c.solve_files.result
    (devices g.F.Files g.S.Sink c.args.files.now c.args.out.now) (devices g.F.Files g.S.Sink c.solve_files.new.files c.say.new.out)
    c.say.result c.solve_files.ensures.solves c.say.ensures
    c.solve_files.ensures.read_fault c.solve_files.ensures.write_fault tt
    (λ e. inl (at_once (g.F.Files.held c.args.files.now), c.solve_files.ensures.read_fault e))
    c.solve_files.ensures.write_fault_at
