use Rattle.std.proofs.Common.{◌≡◌, ◌∙◌, inl, inr, ap, subst, Err}
use Rattle.std.proofs.lemmas.Option.{IfSome_then}
use Rattle.q_io.proofs.FaultCounts.{rose_later}
use Rattle.q_command.proofs.FaultTurns.{at_once}
use Rattle.q_command.proofs.FilePieces.{if_some_2, at_same}
use Rattle.q_command.specs.declared.status.Status.TheVariants as status
use Rattle.q_run_validate.specs.ValidatedLines.{status_of_validated}
use Rattle.q_run_validate.specs.Validates.{files_of}
use Rattle.q_run_validate.specs.declared.validated.Validated.{Validated}
use Rattle.q_run_validate.proofs.ValidateOutcome.{says-files, input-says, text-says, judged-says, judged-not_fault, input-fault, text-fault, never-write}
use Rattle.q_run_validate.proofs.validating.validate_files.Goals as goal

pub returns-in-Err-clause-validates : goal.returns-in-Err-clause-validates
returns-in-Err-clause-validates g c =
    says-files c.refused_input.result (files_of c.args.names) c.args.budget (g.F.Files.held c.args.files.now) (g.F.Files.held c.read_input.new.files)
    c.in-Err.ensures.only_reads.same
    (IfSome_then (g.F.Files.held c.args.files.now) c.in-Err.ensures.refused
    (λ disk r. input-says c.in-Err.error c.refused_input.result (files_of c.args.names) c.args.budget disk c.refused_input.ensures r))

pub returns-in-Err-clause-read_fault : goal.returns-in-Err-clause-read_fault
returns-in-Err-clause-read_fault g c e =
    inl (c.in-Err.ensures.fault (ap Err (input-fault c.in-Err.error
    (subst (λ (o : Validated). status_of_validated o ≡ status.ReadFault) c.refused_input.ensures e))))

pub returns-in-Err-clause-read_fault_at : goal.returns-in-Err-clause-read_fault_at
returns-in-Err-clause-read_fault_at g c e =
    inl (
      at_once (g.F.Files.held c.args.files.now),
      c.in-Err.ensures.fault (ap Err (input-fault c.in-Err.error
          (subst (λ (o : Validated). status_of_validated o ≡ status.ReadFault) c.refused_input.ensures e))),
    )

pub returns-in-Err-clause-write_fault : goal.returns-in-Err-clause-write_fault
returns-in-Err-clause-write_fault g c = never-write c.refused_input.result

pub returns-in-Err-read_circuits-clause-validates : goal.returns-in-Err-read_circuits-clause-validates
returns-in-Err-read_circuits-clause-validates g c =
    says-files c.refused_text.result (files_of c.args.names) c.args.budget (g.F.Files.held c.args.files.now) (g.F.Files.held c.read_circuits.new.files)
    (c.in-Err-read_circuits.ensures.only_reads.same ∙ c.in-Ok.ensures.only_reads.same)
    (if_some_2 (g.F.Files.held c.args.files.now) c.in-Ok.ensures.formula
    (at_same _ _ _ c.in-Ok.ensures.only_reads.same c.in-Err-read_circuits.ensures.refused)
    (λ disk f r. text-says c.in-Err-read_circuits.error c.refused_text.result (files_of c.args.names) c.args.budget disk c.refused_text.ensures (c.in-Ok.formula, f) r))

pub returns-in-Err-read_circuits-clause-read_fault : goal.returns-in-Err-read_circuits-clause-read_fault
returns-in-Err-read_circuits-clause-read_fault g c e =
    inr (rose_later (g.F.Files.read_faults c.args.files.now c.args.names.cert.now) (g.F.Files.read_faults c.read_input.new.files c.args.names.cert.now) (g.F.Files.read_faults c.read_circuits.new.files c.args.names.cert.now)
    (c.in-Ok.ensures.only_reads.later.read c.args.names.cert.now)
    (c.in-Err-read_circuits.ensures.fault (ap Err (text-fault c.in-Err-read_circuits.error
    (subst (λ (o : Validated). status_of_validated o ≡ status.ReadFault) c.refused_text.ensures e)))))

pub returns-in-Err-read_circuits-clause-read_fault_at : goal.returns-in-Err-read_circuits-clause-read_fault_at
returns-in-Err-read_circuits-clause-read_fault_at g c e =
    inr (inl (
      IfSome_then (g.F.Files.held c.args.files.now) c.in-Ok.ensures.formula (λ disk f. (c.in-Ok.formula, f)),
      rose_later (g.F.Files.read_faults c.args.files.now c.args.names.cert.now) (g.F.Files.read_faults c.read_input.new.files c.args.names.cert.now) (g.F.Files.read_faults c.read_circuits.new.files c.args.names.cert.now)
          (c.in-Ok.ensures.only_reads.later.read c.args.names.cert.now)
          (c.in-Err-read_circuits.ensures.fault (ap Err (text-fault c.in-Err-read_circuits.error
          (subst (λ (o : Validated). status_of_validated o ≡ status.ReadFault) c.refused_text.ensures e)))),
    ))

pub returns-in-Err-read_circuits-clause-write_fault : goal.returns-in-Err-read_circuits-clause-write_fault
returns-in-Err-read_circuits-clause-write_fault g c = never-write c.refused_text.result

pub returns-clause-validates : goal.returns-clause-validates
returns-clause-validates g c =
    says-files c.judge.result (files_of c.args.names) c.args.budget (g.F.Files.held c.args.files.now) (g.F.Files.held c.read_circuits.new.files)
    (c.in-Ok-read_circuits.ensures.only_reads.same ∙ c.in-Ok.ensures.only_reads.same)
    (if_some_2 (g.F.Files.held c.args.files.now) c.in-Ok.ensures.formula
    (at_same _ _ _ c.in-Ok.ensures.only_reads.same c.in-Ok-read_circuits.ensures.circuits)
    (λ disk f a. judged-says c.judge.result (files_of c.args.names) c.args.budget disk c.in-Ok.formula c.in-Ok-read_circuits.given f a c.judge.ensures))

pub returns-clause-read_fault : goal.returns-clause-read_fault
returns-clause-read_fault g c e =
    absurd (judged-not_fault c.judge.result c.in-Ok.formula c.in-Ok-read_circuits.given c.args.budget c.judge.ensures e)

pub returns-clause-read_fault_at : goal.returns-clause-read_fault_at
returns-clause-read_fault_at g c e =
    absurd (judged-not_fault c.judge.result c.in-Ok.formula c.in-Ok-read_circuits.given c.args.budget c.judge.ensures e)

pub returns-clause-write_fault : goal.returns-clause-write_fault
returns-clause-write_fault g c = never-write c.judge.result
