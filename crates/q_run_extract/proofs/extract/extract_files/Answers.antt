use Rattle.std.proofs.Common.{◌≡◌, ◌∙◌, inl, inr, ap, subst, Err}
use Rattle.std.proofs.lemmas.Option.{IfSome_then}
use Rattle.q_io.proofs.FaultCounts.{rose_later}
use Rattle.q_command.proofs.FaultTurns.{at_once}
use Rattle.q_command.proofs.FilePieces.{at_same}
use Rattle.q_command.specs.declared.status.Status.TheVariants as status
use Rattle.q_run_extract.specs.ExtractedLines.{status_of_extracted}
use Rattle.q_run_extract.specs.Extracts.{files_of}
use Rattle.q_run_extract.specs.declared.extracted.Extracted.{Extracted}
use Rattle.q_run_extract.proofs.ExtractFiles.{input-extracts, trace-extracts, settled-extracts, input-fault, trace-fault, input-not_write, trace-not_write, reading-status, writing-status}
use Rattle.q_run_extract.proofs.extract.extract_files.Goals as goal

pub returns-in-Err-clause-extracts : goal.returns-in-Err-clause-extracts
returns-in-Err-clause-extracts g c =
    input-extracts (files_of c.args.names) (g.F.Files.held c.args.files.now) (g.F.Files.held c.read_input.new.files) c.in-Err.error c.refused_input.result c.refused_input.ensures c.in-Err.ensures.only_reads.same c.in-Err.ensures.refused

pub returns-in-Err-clause-read_fault : goal.returns-in-Err-clause-read_fault
returns-in-Err-clause-read_fault g c e =
    inl (c.in-Err.ensures.fault (ap Err (input-fault c.in-Err.error (subst (λ (o : Extracted). status_of_extracted o ≡ status.ReadFault) c.refused_input.ensures e))))

pub returns-in-Err-clause-read_fault_at : goal.returns-in-Err-clause-read_fault_at
returns-in-Err-clause-read_fault_at g c e =
    inl (
      at_once (g.F.Files.held c.args.files.now),
      c.in-Err.ensures.fault (ap Err (input-fault c.in-Err.error (subst (λ (o : Extracted). status_of_extracted o ≡ status.ReadFault) c.refused_input.ensures e))),
    )

pub returns-in-Err-clause-write_fault : goal.returns-in-Err-clause-write_fault
returns-in-Err-clause-write_fault g c e =
    absurd (input-not_write c.in-Err.error (subst (λ (o : Extracted). status_of_extracted o ≡ status.WriteFault) c.refused_input.ensures e))

pub returns-in-Err-read_trace-clause-extracts : goal.returns-in-Err-read_trace-clause-extracts
returns-in-Err-read_trace-clause-extracts g c =
    trace-extracts (files_of c.args.names) (g.F.Files.held c.args.files.now) (g.F.Files.held c.read_trace.new.files) c.in-Err-read_trace.error c.refused_trace.result c.in-Ok.formula c.refused_trace.ensures
    (c.in-Err-read_trace.ensures.only_reads.same ∙ c.in-Ok.ensures.only_reads.same) c.in-Ok.ensures.formula (at_same _ _ _ c.in-Ok.ensures.only_reads.same c.in-Err-read_trace.ensures.refused)

pub returns-in-Err-read_trace-clause-read_fault : goal.returns-in-Err-read_trace-clause-read_fault
returns-in-Err-read_trace-clause-read_fault g c e =
    inr (rose_later (g.F.Files.read_faults c.args.files.now c.args.names.trace.now) (g.F.Files.read_faults c.read_input.new.files c.args.names.trace.now) (g.F.Files.read_faults c.read_trace.new.files c.args.names.trace.now)
    (c.in-Ok.ensures.only_reads.later.read c.args.names.trace.now)
    (c.in-Err-read_trace.ensures.fault (ap Err (trace-fault c.in-Err-read_trace.error (subst (λ (o : Extracted). status_of_extracted o ≡ status.ReadFault) c.refused_trace.ensures e)))))

pub returns-in-Err-read_trace-clause-read_fault_at : goal.returns-in-Err-read_trace-clause-read_fault_at
returns-in-Err-read_trace-clause-read_fault_at g c e =
    inr (inl (
      IfSome_then (g.F.Files.held c.args.files.now) c.in-Ok.ensures.formula (λ disk f. (c.in-Ok.formula, f)),
      rose_later (g.F.Files.read_faults c.args.files.now c.args.names.trace.now) (g.F.Files.read_faults c.read_input.new.files c.args.names.trace.now) (g.F.Files.read_faults c.read_trace.new.files c.args.names.trace.now)
          (c.in-Ok.ensures.only_reads.later.read c.args.names.trace.now)
          (c.in-Err-read_trace.ensures.fault (ap Err (trace-fault c.in-Err-read_trace.error (subst (λ (o : Extracted). status_of_extracted o ≡ status.ReadFault) c.refused_trace.ensures e)))),
    ))

pub returns-in-Err-read_trace-clause-write_fault : goal.returns-in-Err-read_trace-clause-write_fault
returns-in-Err-read_trace-clause-write_fault g c e =
    absurd (trace-not_write c.in-Err-read_trace.error (subst (λ (o : Extracted). status_of_extracted o ≡ status.WriteFault) c.refused_trace.ensures e))

pub returns-clause-extracts : goal.returns-clause-extracts
returns-clause-extracts g c =
    let same = c.in-Ok-read_trace.ensures.only_reads.same ∙ c.in-Ok.ensures.only_reads.same in
    settled-extracts (files_of c.args.names) (g.F.Files.held c.args.files.now) (g.F.Files.held c.settle.new.files) c.settle.result c.in-Ok.formula c.in-Ok-read_trace.trace
    c.in-Ok.ensures.formula (at_same _ _ _ c.in-Ok.ensures.only_reads.same c.in-Ok-read_trace.ensures.trace) (at_same _ _ _ same c.settle.ensures.settles)

pub returns-clause-read_fault : goal.returns-clause-read_fault
returns-clause-read_fault g c e = absurd (c.settle.ensures.reading (reading-status c.settle.result e))

pub returns-clause-read_fault_at : goal.returns-clause-read_fault_at
returns-clause-read_fault_at g c e = absurd (c.settle.ensures.reading (reading-status c.settle.result e))

pub returns-clause-write_fault : goal.returns-clause-write_fault
returns-clause-write_fault g c e =
    rose_later (g.F.Files.write_faults c.args.files.now c.args.names.cert.now) (g.F.Files.write_faults c.read_input.new.files c.args.names.cert.now) (g.F.Files.write_faults c.settle.new.files c.args.names.cert.now)
    (c.in-Ok.ensures.only_reads.later.write c.args.names.cert.now)
    (rose_later (g.F.Files.write_faults c.read_input.new.files c.args.names.cert.now) (g.F.Files.write_faults c.read_trace.new.files c.args.names.cert.now) (g.F.Files.write_faults c.settle.new.files c.args.names.cert.now)
    (c.in-Ok-read_trace.ensures.only_reads.later.write c.args.names.cert.now) (c.settle.ensures.cause (writing-status c.settle.result e)))
