use Rattle.std.proofs.Common.{◌-◌, IfSome}
use Rattle.q_io.specs.Files.{OnlyReads, bytes_at}
use Rattle.q_run_extract.specs.TraceFiles.{IsReading, HasFront}
use Rattle.q_run_extract.proofs.trace_file.read_through.Given as goal

abbrev pub invariant-loop-reader : goal.invariant-loop-reader
invariant-loop-reader g l =
    record {
      reading : IsReading l.at l.reader;
      front : IfSome (g.F.Files.held l.fn.files) (λ disk. HasFront (bytes_at disk l.name) l.at l.reader);
      only_reads : OnlyReads g.F.Files.held g.F.Files.read_faults g.F.Files.write_faults l.fn.files l.files;
    }

abbrev pub decreases-loop-reader : goal.decreases-loop-reader
decreases-loop-reader g l = 1099511627776 - l.at
