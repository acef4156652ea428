use Rattle.std.proofs.Common.{◌≡◌, inl, inr, ap, subst, Err, false}
use Rattle.std.proofs.lemmas.Option.{IfSome_then}
use Rattle.q_io.specs.Files.{bytes_at}
use Rattle.q_io.proofs.FaultCounts.{rose_later}
use Rattle.q_command.proofs.FaultTurns.{at_once}
use Rattle.q_command.proofs.FilePieces.{if_some_2, at_same}
use Rattle.q_command.specs.Parts.{share_of}
use Rattle.q_command.specs.declared.status.Status.TheVariants as status
use Rattle.q_run_disprove.specs.DisprovedLines.{status_of_disproved}
use Rattle.q_run_disprove.specs.Disproofs.{files_of}
use Rattle.q_run_disprove.specs.declared.form.Form.{Form}
use Rattle.q_run_disprove.specs.declared.disproved.Disproved.{Disproved}
use Rattle.q_run_disprove.proofs.DisproveOutcome.{says-bytes, says-of, input-says, input-fault, fault-is, never-write}
use Rattle.q_run_disprove.proofs.disproving.disprove_shared.Goals as goal

pub returns-clause-says : goal.returns-clause-says
returns-clause-says g c =
    let w = c.judge-verdict.result in
    let form : Form = record { binary = c.args.binary; keeps = false; hints = c.args.hints } in
    if_some_2 (g.F.Files.held c.args.files.now) c.in-Ok.ensures.formula
    (at_same _ _ _ c.in-Ok.ensures.only_reads.same c.judge-verdict.ensures.says)
    (λ disk f a. says-of c.args.hints c.args.binary (share_of c.args.part) w.outcome (files_of c.args.names) disk c.in-Ok.formula f
    (says-bytes form (share_of c.args.part) w c.in-Ok.formula (bytes_at disk c.args.names.proof.now) a))

pub returns-clause-read_fault : goal.returns-clause-read_fault
returns-clause-read_fault g c e =
    inr (rose_later (g.F.Files.read_faults c.args.files.now c.args.names.proof.now) (g.F.Files.read_faults c.read_input.new.files c.args.names.proof.now) (g.F.Files.read_faults c.judge-verdict.new.files c.args.names.proof.now)
    (c.in-Ok.ensures.only_reads.later.read c.args.names.proof.now)
    (c.judge-verdict.ensures.fault (fault-is c.judge-verdict.result.outcome e)))

pub returns-clause-read_fault_at : goal.returns-clause-read_fault_at
returns-clause-read_fault_at g c e =
    inr (inl (
      IfSome_then (g.F.Files.held c.args.files.now) c.in-Ok.ensures.formula (λ disk f. (c.in-Ok.formula, f)),
      rose_later (g.F.Files.read_faults c.args.files.now c.args.names.proof.now) (g.F.Files.read_faults c.read_input.new.files c.args.names.proof.now) (g.F.Files.read_faults c.judge-verdict.new.files c.args.names.proof.now)
          (c.in-Ok.ensures.only_reads.later.read c.args.names.proof.now)
          (c.judge-verdict.ensures.fault (fault-is c.judge-verdict.result.outcome e)),
    ))

pub returns-clause-write_fault : goal.returns-clause-write_fault
returns-clause-write_fault g c = never-write c.judge-verdict.result.outcome

pub returns-in-Err-clause-says : goal.returns-in-Err-clause-says
returns-in-Err-clause-says g c =
    IfSome_then (g.F.Files.held c.args.files.now) c.in-Err.ensures.refused
    (λ disk r. input-says c.args.hints c.args.binary (share_of c.args.part) c.in-Err.error c.refused_input.result (files_of c.args.names) disk c.refused_input.ensures r)

pub returns-in-Err-clause-read_fault : goal.returns-in-Err-clause-read_fault
returns-in-Err-clause-read_fault g c e =
    inl (c.in-Err.ensures.fault (ap Err (input-fault c.in-Err.error
    (subst (λ (o : Disproved). status_of_disproved o ≡ status.ReadFault) c.refused_input.ensures e))))

pub returns-in-Err-clause-read_fault_at : goal.returns-in-Err-clause-read_fault_at
returns-in-Err-clause-read_fault_at g c e =
    inl (
      at_once (g.F.Files.held c.args.files.now),
      c.in-Err.ensures.fault (ap Err (input-fault c.in-Err.error
          (subst (λ (o : Disproved). status_of_disproved o ≡ status.ReadFault) c.refused_input.ensures e))),
    )

pub returns-in-Err-clause-write_fault : goal.returns-in-Err-clause-write_fault
returns-in-Err-clause-write_fault g c = never-write c.refused_input.result
