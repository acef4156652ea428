use Rattle.std.proofs.Common.{◌≡◌, IfSome, subst, sym}
use Rattle.q_command.specs.Parts.{share_of}
use Rattle.q_command.specs.Statuses.{status_of}
use Rattle.q_command.specs.declared.outcome.Outcome.{Outcome}
use Rattle.q_command.specs.declared.status.Status.TheVariants as status
use Rattle.q_run_disprove.specs.Disproofs.{files_of}
use Rattle.q_run_disprove.specs.SharedDisproofs.{PartDisproves}
use Rattle.q_run_disprove.proofs.DisproveOutcome.{part-files, same-fault, part-never-write}
use Rattle.q_run_disprove.proofs.part.disprove_part.Goals as goal

pub returns-clause-disproves : goal.returns-clause-disproves
returns-clause-disproves g c =
    subst (λ (o : Outcome). IfSome (g.F.Files.held c.args.files.now) (λ disk. PartDisproves (share_of c.args.part) o (files_of c.args.names) c.args.binary disk (g.F.Files.held c.disprove_shared.new.files)))
    (sym c.told_by_part.ensures)
    (part-files (share_of c.args.part) c.disprove_shared.result (files_of c.args.names) c.args.binary (g.F.Files.held c.args.files.now) (g.F.Files.held c.disprove_shared.new.files)
    c.disprove_shared.ensures.held c.disprove_shared.ensures.says)

pub returns-clause-read_fault : goal.returns-clause-read_fault
returns-clause-read_fault g c e =
    c.disprove_shared.ensures.read_fault (same-fault c.disprove_shared.result (subst (λ (o : Outcome). status_of o ≡ status.ReadFault) c.told_by_part.ensures e))

pub returns-clause-read_fault_at : goal.returns-clause-read_fault_at
returns-clause-read_fault_at g c e =
    c.disprove_shared.ensures.read_fault_at (same-fault c.disprove_shared.result (subst (λ (o : Outcome). status_of o ≡ status.ReadFault) c.told_by_part.ensures e))

pub returns-clause-write_fault : goal.returns-clause-write_fault
returns-clause-write_fault g c e = part-never-write c.disprove_shared.result (subst (λ (o : Outcome). status_of o ≡ status.WriteFault) c.told_by_part.ensures e)
