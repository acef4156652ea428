use Rattle.std.proofs.Common.{inr, ap, Err}
use Rattle.q_command.proofs.FilePieces.{at_same, if_some_2}
use Rattle.q_run_apply.specs.Applications.{files_of}
use Rattle.q_run_apply.proofs.ApplyOutcome.{fault-is, part-left, refusal-no-write, refused-says, says-written, written-no-fault}
use Rattle.q_run_apply.proofs.applying.apply_files.Goals as goal

pub returns-in-Ok-write_output-clause-applies : goal.returns-in-Ok-write_output-clause-applies
returns-in-Ok-write_output-clause-applies g c =
    let w = at_same _ _ _ c.in-Ok.ensures.only_reads.same c.in-Ok-write_output.ensures.whole in
    if_some_2 (g.F.Files.held c.args.files.now) c.in-Ok.ensures.reached w
    (λ disk h x. says-written (files_of c.args.names) disk (g.F.Files.held c.write_output.new.files) c.in-Ok.reached h c.written.result c.written.ensures x)

pub returns-in-Ok-write_output-clause-read_fault : goal.returns-in-Ok-write_output-clause-read_fault
returns-in-Ok-write_output-clause-read_fault g c e = absurd ((written-no-fault c.in-Ok.reached.steps c.in-Ok.reached.broken c.written.result c.written.ensures).0 e)

pub returns-in-Ok-write_output-clause-read_fault_at : goal.returns-in-Ok-write_output-clause-read_fault_at
returns-in-Ok-write_output-clause-read_fault_at g c e = absurd ((written-no-fault c.in-Ok.reached.steps c.in-Ok.reached.broken c.written.result c.written.ensures).0 e)

pub returns-in-Ok-write_output-clause-write_fault : goal.returns-in-Ok-write_output-clause-write_fault
returns-in-Ok-write_output-clause-write_fault g c e = absurd ((written-no-fault c.in-Ok.reached.steps c.in-Ok.reached.broken c.written.result c.written.ensures).1 e)

pub returns-in-Err-Failed-clause-applies : goal.returns-in-Err-Failed-clause-applies
returns-in-Err-Failed-clause-applies g c =
    let w = at_same _ _ _ c.in-Ok.ensures.only_reads.same c.in-Err-Failed.ensures.part in
    if_some_2 (g.F.Files.held c.args.files.now) c.in-Ok.ensures.reached w
    (λ disk h x. part-left (files_of c.args.names) disk (g.F.Files.held c.write_output.new.files) c.in-Ok.reached h x)

pub returns-clause-applies : goal.returns-clause-applies
returns-clause-applies g c =
    let w = at_same _ _ _ c.in-Ok.ensures.only_reads.same c.in-Err-NoMemory.ensures.part in
    if_some_2 (g.F.Files.held c.args.files.now) c.in-Ok.ensures.reached w
    (λ disk h x. inr (part-left (files_of c.args.names) disk (g.F.Files.held c.write_output.new.files) c.in-Ok.reached h x))

pub returns-in-Err-clause-applies : goal.returns-in-Err-clause-applies
returns-in-Err-clause-applies g c =
    refused-says c.in-Err.outcome (files_of c.args.names) (g.F.Files.held c.args.files.now) (g.F.Files.held c.reach.new.files) c.in-Err.ensures.only_reads.same c.in-Err.ensures.refused

pub returns-in-Err-clause-read_fault : goal.returns-in-Err-clause-read_fault
returns-in-Err-clause-read_fault g c e = c.in-Err.ensures.fault (ap Err (fault-is c.in-Err.outcome e))

pub returns-in-Err-clause-read_fault_at : goal.returns-in-Err-clause-read_fault_at
returns-in-Err-clause-read_fault_at g c e = c.in-Err.ensures.fault_at (ap Err (fault-is c.in-Err.outcome e))

pub returns-in-Err-clause-write_fault : goal.returns-in-Err-clause-write_fault
returns-in-Err-clause-write_fault g c e = absurd (refusal-no-write c.in-Err.outcome c.in-Err.ensures.refusal e)
