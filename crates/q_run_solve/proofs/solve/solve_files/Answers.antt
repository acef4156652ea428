use Rattle.std.proofs.Common.{subst, sym, IfSome}
use Rattle.q_logic.specs.Prelude.{PrenexFormula, standard}
use Rattle.q_io.specs.Files.{bytes_at}
use Rattle.q_dimacs.specs.Dimacs.{Dimacs}
use Rattle.q_command.proofs.FaultTurns.{later-at}
use Rattle.q_command.proofs.FilePieces.{at_same}
use Rattle.q_run_solve.specs.Solves.{files_of, turns_written}
use Rattle.q_run_solve.proofs.SolveParts.{refused-says, settled-all, starts-same}
use Rattle.q_run_solve.proofs.RisenFaults.{three-later, refusal-writes, refusal-reads}
use Rattle.q_run_solve.proofs.solve.solve_files.Goals as goal

pub returns-in-Err-clause-solves : goal.returns-in-Err-clause-solves
returns-in-Err-clause-solves g c = refused-says (files_of c.args.names) c.refused.result c.in-Err.error c.args.budget (g.F.Files.held c.args.files.now) (g.F.Files.held c.read_input.new.files) c.refused.ensures c.in-Err.ensures.refused c.in-Err.ensures.only_reads.same

pub returns-in-Err-clause-read_fault : goal.returns-in-Err-clause-read_fault
returns-in-Err-clause-read_fault g c = refusal-reads {T = PrenexFormula} c.refused.result c.in-Err.error c.refused.ensures c.in-Err.ensures.fault

pub returns-in-Err-clause-write_fault : goal.returns-in-Err-clause-write_fault
returns-in-Err-clause-write_fault g c = λ s. absurd (refusal-writes c.refused.result c.in-Err.error c.refused.ensures s)

pub settle-requires-clause-made : goal.settle-requires-clause-made
settle-requires-clause-made g c = starts-same c.in-Ok.formula c.in-Ok-reduce.reduced c.in-Ok-reduce.ensures

pub returns-in-Ok-reduce-clause-solves : goal.returns-in-Ok-reduce-clause-solves
returns-in-Ok-reduce-clause-solves g c =
    settled-all (files_of c.args.names) c.in-Ok.formula c.in-Ok-reduce.reduced.checked.from c.settle.result c.args.budget (g.F.Files.held c.args.files.now) (g.F.Files.held c.read_input.new.files) (g.F.Files.held c.settle.new.files) c.in-Ok-reduce.ensures.start c.in-Ok.ensures.only_reads.same c.in-Ok.ensures.formula c.settle.ensures.settles

pub returns-in-Ok-reduce-clause-read_fault : goal.returns-in-Ok-reduce-clause-read_fault
returns-in-Ok-reduce-clause-read_fault g c = λ s. absurd (c.settle.ensures.reading s)

pub returns-in-Ok-reduce-clause-write_fault : goal.returns-in-Ok-reduce-clause-write_fault
returns-in-Ok-reduce-clause-write_fault g c =
    λ s. three-later g.F.Files.read_faults g.F.Files.write_faults c.args.names.output.now c.args.names.log.now c.args.names.cert.now c.args.files.now c.read_input.new.files c.settle.new.files c.in-Ok.ensures.only_reads.later (c.settle.ensures.cause s)

pub returns-in-Err-clause-write_fault_at : goal.returns-in-Err-clause-write_fault_at
returns-in-Err-clause-write_fault_at g c = λ s. absurd (refusal-writes c.refused.result c.in-Err.error c.refused.ensures s)

pub returns-in-Ok-reduce-clause-write_fault_at : goal.returns-in-Ok-reduce-clause-write_fault_at
returns-in-Ok-reduce-clause-write_fault_at g c = λ s.
    let same = c.in-Ok.ensures.only_reads.same in
    let f = subst (λ (H : PrenexFormula). IfSome (g.F.Files.held c.args.files.now) (λ disk. Dimacs standard (bytes_at disk c.args.names.input.now) H)) (sym c.in-Ok-reduce.ensures.start) c.in-Ok.ensures.formula in
    later-at g.F.Files.write_faults (turns_written (files_of c.args.names)) (g.F.Files.held c.args.files.now) (g.F.Files.held c.read_input.new.files) (g.F.Files.held c.settle.new.files) c.args.files.now c.read_input.new.files c.settle.new.files
    same c.in-Ok.ensures.only_reads.later.write (c.settle.ensures.cause_at s (at_same _ _ _ (sym same) f))
