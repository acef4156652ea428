use Rattle.std.proofs.Common.{◌+◌, ◌-◌, ◌≡◌, IfSome}
use Rattle.q_io.specs.Files.{OnlyReads, bytes_at}
use Rattle.q_binary.specs.Forms.{left_of}
use Rattle.q_run_show.specs.Readings.{IsOpen}
use Rattle.q_run_show.proofs.ProofReading.{HasReached}
use Rattle.q_run_show.proofs.reading.read_all.Given as goal

abbrev pub invariant-loop-reading : goal.invariant-loop-reading
invariant-loop-reading g l =
    record {
      goes_on : IsOpen l.reading;
      left : left_of l.reading.reader + l.at ≡ 1099511627776;
      front : IfSome (g.F.Files.held l.fn.files) (λ disk. HasReached (bytes_at disk l.name) l.at l.initial.reading l.reading);
      only_reads : OnlyReads g.F.Files.held g.F.Files.read_faults g.F.Files.write_faults l.fn.files l.files;
    }

abbrev pub decreases-loop-reading : goal.decreases-loop-reading
decreases-loop-reading g l = 1099511627776 - l.at
