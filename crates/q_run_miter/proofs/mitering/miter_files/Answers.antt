use Rattle.std.proofs.Common.{◌≡◌, ◌∙◌, inl, inr, ap, subst, Err}
use Rattle.std.proofs.lemmas.Option.{IfSome_then}
use Rattle.q_io.proofs.FaultCounts.{rose_later}
use Rattle.q_command.proofs.FaultTurns.{at_once}
use Rattle.q_command.proofs.FilePieces.{at_same}
use Rattle.q_command.specs.declared.status.Status.TheVariants as status
use Rattle.q_run_miter.specs.MiteredLines.{status_of_mitered}
use Rattle.q_run_miter.specs.Mitering.{files_of}
use Rattle.q_run_miter.specs.declared.mitered.Mitered.{Mitered}
use Rattle.q_run_miter.proofs.MiterOutcome.{found, fails-joined, puts-joined, input-joined, text-joined, fails-not_fault, fails-not_write, input-fault, input-not_write, text-fault, text-not_write}
use Rattle.q_run_miter.proofs.mitering.miter_files.Goals as goal

pub returns-in-Err-clause-miters : goal.returns-in-Err-clause-miters
returns-in-Err-clause-miters g c =
    input-joined (g.F.Files.held c.args.files.now) (g.F.Files.held c.read_input.new.files) c.in-Err.error c.refused_input.result c.args.side (files_of c.args.names)
    c.refused_input.ensures c.in-Err.ensures.refused c.in-Err.ensures.only_reads.same

pub returns-in-Err-clause-read_fault : goal.returns-in-Err-clause-read_fault
returns-in-Err-clause-read_fault g c e =
    inl (c.in-Err.ensures.fault (ap Err (input-fault c.in-Err.error
    (subst (λ (o : Mitered). status_of_mitered o ≡ status.ReadFault) c.refused_input.ensures e))))

pub returns-in-Err-clause-read_fault_at : goal.returns-in-Err-clause-read_fault_at
returns-in-Err-clause-read_fault_at g c e =
    inl (
      at_once (g.F.Files.held c.args.files.now),
      c.in-Err.ensures.fault (ap Err (input-fault c.in-Err.error (subst (λ (o : Mitered). status_of_mitered o ≡ status.ReadFault) c.refused_input.ensures e))),
    )

pub returns-in-Err-clause-write_fault : goal.returns-in-Err-clause-write_fault
returns-in-Err-clause-write_fault g c e =
    absurd (input-not_write c.in-Err.error (subst (λ (o : Mitered). status_of_mitered o ≡ status.WriteFault) c.refused_input.ensures e))

pub returns-in-Err-read_circuits-clause-miters : goal.returns-in-Err-read_circuits-clause-miters
returns-in-Err-read_circuits-clause-miters g c =
    text-joined (g.F.Files.held c.args.files.now) (g.F.Files.held c.read_circuits.new.files) c.in-Err-read_circuits.error c.refused_text.result c.args.side (files_of c.args.names) c.in-Ok.formula
    c.refused_text.ensures c.in-Ok.ensures.formula (at_same _ _ _ c.in-Ok.ensures.only_reads.same c.in-Err-read_circuits.ensures.refused)
    (c.in-Err-read_circuits.ensures.only_reads.same ∙ c.in-Ok.ensures.only_reads.same)

pub returns-in-Err-read_circuits-clause-read_fault : goal.returns-in-Err-read_circuits-clause-read_fault
returns-in-Err-read_circuits-clause-read_fault g c e =
    inr (rose_later (g.F.Files.read_faults c.args.files.now c.args.names.cert.now) (g.F.Files.read_faults c.read_input.new.files c.args.names.cert.now) (g.F.Files.read_faults c.read_circuits.new.files c.args.names.cert.now)
    (c.in-Ok.ensures.only_reads.later.read c.args.names.cert.now)
    (c.in-Err-read_circuits.ensures.fault (ap Err (text-fault c.in-Err-read_circuits.error
    (subst (λ (o : Mitered). status_of_mitered o ≡ status.ReadFault) c.refused_text.ensures e)))))

pub returns-in-Err-read_circuits-clause-read_fault_at : goal.returns-in-Err-read_circuits-clause-read_fault_at
returns-in-Err-read_circuits-clause-read_fault_at g c e =
    inr (inl (
      IfSome_then (g.F.Files.held c.args.files.now) c.in-Ok.ensures.formula (λ disk f. (c.in-Ok.formula, f)),
      rose_later (g.F.Files.read_faults c.args.files.now c.args.names.cert.now) (g.F.Files.read_faults c.read_input.new.files c.args.names.cert.now) (g.F.Files.read_faults c.read_circuits.new.files c.args.names.cert.now)
          (c.in-Ok.ensures.only_reads.later.read c.args.names.cert.now)
          (c.in-Err-read_circuits.ensures.fault (ap Err (text-fault c.in-Err-read_circuits.error (subst (λ (o : Mitered). status_of_mitered o ≡ status.ReadFault) c.refused_text.ensures e)))),
    ))

pub returns-in-Err-read_circuits-clause-write_fault : goal.returns-in-Err-read_circuits-clause-write_fault
returns-in-Err-read_circuits-clause-write_fault g c e =
    absurd (text-not_write c.in-Err-read_circuits.error (subst (λ (o : Mitered). status_of_mitered o ≡ status.WriteFault) c.refused_text.ensures e))

pub returns-in-Ok-make_clauses-clause-miters : goal.returns-in-Ok-make_clauses-clause-miters
returns-in-Ok-make_clauses-clause-miters g c =
    let same = c.in-Ok-read_circuits.ensures.only_reads.same ∙ c.in-Ok.ensures.only_reads.same in
    let here = found c.args.side (files_of c.args.names) c.in-Ok.formula c.in-Ok-read_circuits.given (g.F.Files.held c.args.files.now) c.in-Ok.ensures.formula
    (at_same _ _ _ c.in-Ok.ensures.only_reads.same c.in-Ok-read_circuits.ensures.circuits) in
    puts-joined c.args.side (files_of c.args.names) c.in-Ok.formula c.in-Ok-read_circuits.given (g.F.Files.held c.args.files.now) (g.F.Files.held c.write_miter.new.files)
    c.write_miter.result c.in-Ok-make_clauses.clauses here c.in-Ok-make_clauses.ensures.made (at_same _ _ _ same c.write_miter.ensures.puts)

pub returns-in-Ok-make_clauses-clause-read_fault : goal.returns-in-Ok-make_clauses-clause-read_fault
returns-in-Ok-make_clauses-clause-read_fault g c e = absurd (c.write_miter.ensures.reading e)

pub returns-in-Ok-make_clauses-clause-read_fault_at : goal.returns-in-Ok-make_clauses-clause-read_fault_at
returns-in-Ok-make_clauses-clause-read_fault_at g c e = absurd (c.write_miter.ensures.reading e)

pub returns-in-Ok-make_clauses-clause-write_fault : goal.returns-in-Ok-make_clauses-clause-write_fault
returns-in-Ok-make_clauses-clause-write_fault g c e =
    rose_later (g.F.Files.write_faults c.args.files.now c.args.names.output.now)
    (g.F.Files.write_faults c.read_input.new.files c.args.names.output.now)
    (g.F.Files.write_faults c.write_miter.new.files c.args.names.output.now)
    (c.in-Ok.ensures.only_reads.later.write c.args.names.output.now)
    (rose_later (g.F.Files.write_faults c.read_input.new.files c.args.names.output.now)
    (g.F.Files.write_faults c.read_circuits.new.files c.args.names.output.now)
    (g.F.Files.write_faults c.write_miter.new.files c.args.names.output.now)
    (c.in-Ok-read_circuits.ensures.only_reads.later.write c.args.names.output.now) (c.write_miter.ensures.cause e))

pub returns-clause-miters : goal.returns-clause-miters
returns-clause-miters g c =
    let here = found c.args.side (files_of c.args.names) c.in-Ok.formula c.in-Ok-read_circuits.given (g.F.Files.held c.args.files.now) c.in-Ok.ensures.formula
    (at_same _ _ _ c.in-Ok.ensures.only_reads.same c.in-Ok-read_circuits.ensures.circuits) in
    fails-joined c.args.side (files_of c.args.names) c.in-Ok.formula c.in-Ok-read_circuits.given (g.F.Files.held c.args.files.now) (g.F.Files.held c.read_circuits.new.files)
    c.in-Err-make_clauses.outcome here c.in-Err-make_clauses.ensures.refused
    (c.in-Ok-read_circuits.ensures.only_reads.same ∙ c.in-Ok.ensures.only_reads.same)

pub returns-clause-read_fault : goal.returns-clause-read_fault
returns-clause-read_fault g c e =
    absurd (fails-not_fault c.in-Err-make_clauses.outcome c.args.side c.in-Ok.formula c.in-Ok-read_circuits.given c.in-Err-make_clauses.ensures.refused e)

pub returns-clause-read_fault_at : goal.returns-clause-read_fault_at
returns-clause-read_fault_at g c e =
    absurd (fails-not_fault c.in-Err-make_clauses.outcome c.args.side c.in-Ok.formula c.in-Ok-read_circuits.given c.in-Err-make_clauses.ensures.refused e)

pub returns-clause-write_fault : goal.returns-clause-write_fault
returns-clause-write_fault g c e =
    absurd (fails-not_write c.in-Err-make_clauses.outcome c.args.side c.in-Ok.formula c.in-Ok-read_circuits.given c.in-Err-make_clauses.ensures.refused e)
