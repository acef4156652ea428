use Rattle.std.proofs.Common.{◌+◌, ◌-◌, ◌≡◌, List, ℕ, IfSome}
use Rattle.q_io.specs.Files.{OnlyReads, bytes_at}
use Rattle.q_command.specs.Audits.{IsOpen, Advances}
use Rattle.q_command.proofs.AuditSteps.{HasReached}
use Rattle.q_command.proofs.checking.check_part_of_log.Given as goal

abbrev pub invariant-loop-audit : goal.invariant-loop-audit
invariant-loop-audit g l =
    record {
      goes_on : IsOpen l.audit;
      advanced : (bytes : List ℕ) × Advances l.initial.audit l.audit bytes;
      left : l.audit.reader.left + l.at ≡ 1099511627776;
      front : IfSome (g.F.Files.held l.fn.files) (λ disk. HasReached (bytes_at disk l.name) l.at l.initial.audit l.audit);
      only_reads : OnlyReads g.F.Files.held g.F.Files.read_faults g.F.Files.write_faults l.fn.files l.files;
    }

abbrev pub decreases-loop-audit : goal.decreases-loop-audit
decreases-loop-audit g l = 1099511627776 - l.at
