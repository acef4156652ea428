use Rattle.std.proofs.Common.{◌+◌, ◌-◌, ◌≤◌, IfSome}
use Rattle.q_io.specs.Files.{OnlyReads, bytes_at}
use Rattle.q_command.specs.Texts.{IsFront}
use Rattle.q_command.proofs.whole_file.read_through.Given as goal

abbrev pub invariant-loop-at : goal.invariant-loop-at
invariant-loop-at g l =
    record {
      front : IfSome (g.F.Files.held l.fn.files) (λ disk. IsFront (bytes_at disk l.name) l.at l.text.items);
      bound : l.at ≤ 1099511627776 + 65536;
      only_reads : OnlyReads g.F.Files.held g.F.Files.read_faults g.F.Files.write_faults l.fn.files l.files;
    }

abbrev pub decreases-loop-at : goal.decreases-loop-at
decreases-loop-at g l = 1099511627777 - l.at
