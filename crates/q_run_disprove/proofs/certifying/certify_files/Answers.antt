use Rattle.std.proofs.Common.{◌≡◌, ◌∙◌, ℕ, inl, inr, ap, subst, sym, Err}
use Rattle.std.proofs.lemmas.Option.{IfSome_then}
use Rattle.q_logic.specs.Prelude.{Rose}
use Rattle.q_io.proofs.FaultCounts.{rose_later}
use Rattle.q_command.proofs.FaultTurns.{at_once}
use Rattle.q_command.proofs.FilePieces.{at_same}
use Rattle.q_command.specs.Parts.{share_of}
use Rattle.q_run_disprove.specs.Certifying.{files_of}
use Rattle.q_command.specs.declared.status.Status.TheVariants as status
use Rattle.q_run_disprove.specs.DisprovedLines.{status_of_disproved}
use Rattle.q_run_disprove.specs.declared.disproved.Disproved.{Disproved}
use Rattle.q_run_disprove.proofs.DisproveOutcome.{input-fault}
use Rattle.q_run_disprove.proofs.CertifyOutcome.{settled-files}
use Rattle.q_run_disprove.proofs.certifying.certify_files.Goals as goal

pub returns-clause-certifies : goal.returns-clause-certifies
returns-clause-certifies g c =
    let same = c.in-Ok.ensures.only_reads.same in
    settled-files (files_of c.args.names) c.args.binary (share_of c.whole.result) c.judge-verdict.result c.settle.result c.in-Ok.formula
    (g.F.Files.held c.args.files.now) (g.F.Files.held c.settle.new.files) c.whole.ensures c.in-Ok.ensures.formula
    (at_same _ _ _ same c.judge-verdict.ensures.says)
    (at_same _ _ _ (c.judge-verdict.ensures.only_reads.same ∙ same) c.settle.ensures.settles)

pub returns-clause-read_fault : goal.returns-clause-read_fault
returns-clause-read_fault g c e =
    inr (rose_later (g.F.Files.read_faults c.args.files.now c.args.names.proof.now) (g.F.Files.read_faults c.read_input.new.files c.args.names.proof.now) (g.F.Files.read_faults c.settle.new.files c.args.names.proof.now)
    (c.in-Ok.ensures.only_reads.later.read c.args.names.proof.now)
    (subst (λ (n : ℕ). Rose (g.F.Files.read_faults c.read_input.new.files c.args.names.proof.now) n) (sym (c.settle.ensures.reads_nothing e c.args.names.proof.now))
    (c.judge-verdict.ensures.fault (c.settle.ensures.reading e))))

pub returns-clause-read_fault_at : goal.returns-clause-read_fault_at
returns-clause-read_fault_at g c e =
    inr (inl (
      IfSome_then (g.F.Files.held c.args.files.now) c.in-Ok.ensures.formula (λ disk f. (c.in-Ok.formula, f)),
      rose_later (g.F.Files.read_faults c.args.files.now c.args.names.proof.now) (g.F.Files.read_faults c.read_input.new.files c.args.names.proof.now) (g.F.Files.read_faults c.settle.new.files c.args.names.proof.now)
          (c.in-Ok.ensures.only_reads.later.read c.args.names.proof.now)
          (subst (λ (n : ℕ). Rose (g.F.Files.read_faults c.read_input.new.files c.args.names.proof.now) n) (sym (c.settle.ensures.reads_nothing e c.args.names.proof.now))
          (c.judge-verdict.ensures.fault (c.settle.ensures.reading e))),
    ))

pub returns-in-Err-clause-read_fault_at : goal.returns-in-Err-clause-read_fault_at
returns-in-Err-clause-read_fault_at g c e =
    inl (
      at_once (g.F.Files.held c.args.files.now),
      c.in-Err.ensures.fault (ap Err (input-fault c.in-Err.error
          (subst (λ (o : Disproved). status_of_disproved o ≡ status.ReadFault) c.refused_input.ensures e))),
    )
