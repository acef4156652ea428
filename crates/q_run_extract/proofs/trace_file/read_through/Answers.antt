use Rattle.std.proofs.Common.{◌<◌, arith}
use Rattle.q_io.specs.Files.{bytes_at}
use Rattle.q_io.proofs.FaultCounts.{reads_at_once, reads_still, rose_later}
use Rattle.q_command.proofs.FilePieces.{if_some, if_some_2, at_same, err_of}
use Rattle.q_run_extract.proofs.TracePieces.{begins, starts, ends_trace, ends_refused}
use Rattle.q_run_extract.proofs.trace_file.read_through.Goals as goal

pub loop-reader-init : goal.loop-reader-init
loop-reader-init g c =
    record {
      reading = starts _ c.new-reader.ensures;
      front = if_some (g.F.Files.held c.args.files.now) (λ d. begins _ _ c.new-reader.ensures);
      only_reads = reads_at_once _ _ _ _;
    }

pub feed_piece-requires-clause-place : goal.feed_piece-requires-clause-place
feed_piece-requires-clause-place g c = c.loop-reader.invariant.reading.within

pub feed_piece-requires-clause-reading : goal.feed_piece-requires-clause-reading
feed_piece-requires-clause-reading g c = c.loop-reader.invariant.reading

pub returns-in-Ok-eq0-clause-trace : goal.returns-in-Ok-eq0-clause-trace
returns-in-Ok-eq0-clause-trace g c =
    let fed = at_same _ _ _ c.loop-reader.invariant.only_reads.same c.in-Ok-eq0.ensures.fed in
    ends_trace (g.F.Files.held c.args.files.now) (λ d. bytes_at d c.args.name.now) _ _ _ _ c.finish.result c.in-Ok-eq0.field-0-test c.loop-reader.invariant.front fed c.finish.ensures.trace

pub returns-in-Ok-eq0-clause-refused : goal.returns-in-Ok-eq0-clause-refused
returns-in-Ok-eq0-clause-refused g c =
    let fed = at_same _ _ _ c.loop-reader.invariant.only_reads.same c.in-Ok-eq0.ensures.fed in
    ends_refused (g.F.Files.held c.args.files.now) (λ d. bytes_at d c.args.name.now) _ _ _ _ c.finish.result c.in-Ok-eq0.field-0-test c.loop-reader.invariant.front fed c.finish.ensures.refused

pub returns-in-Ok-eq0-clause-only_reads : goal.returns-in-Ok-eq0-clause-only_reads
returns-in-Ok-eq0-clause-only_reads g c = reads_still _ _ _ _ _ _ c.loop-reader.invariant.only_reads c.feed_piece.ensures.only_reads

pub loop-reader-smaller : goal.loop-reader-smaller
loop-reader-smaller g c =
    let some : 0 < c.in-Ok.count = omega (arith, c.in-Ok.count-test.1) in
    omega (arith, some, (c.in-Ok.ensures.reading some).within)

pub loop-reader-preserved : goal.loop-reader-preserved
loop-reader-preserved g c =
    let fed = at_same _ _ _ c.loop-reader.invariant.only_reads.same c.in-Ok.ensures.fed in
    let some : 0 < c.in-Ok.count = omega (arith, c.in-Ok.count-test.1) in
    record {
      reading = c.in-Ok.ensures.reading some;
      front = if_some_2 (g.F.Files.held c.args.files.now) c.loop-reader.invariant.front fed (λ d f p. p.further some f);
      only_reads = reads_still _ _ _ _ _ _ c.loop-reader.invariant.only_reads c.feed_piece.ensures.only_reads;
    }

pub returns-in-Err-clause-refused : goal.returns-in-Err-clause-refused
returns-in-Err-clause-refused g c =
    let stopped = at_same _ _ _ c.loop-reader.invariant.only_reads.same c.in-Err.ensures.refused in
    if_some_2 (g.F.Files.held c.args.files.now) c.loop-reader.invariant.front stopped (λ d f h. h f)

pub returns-in-Err-clause-fault : goal.returns-in-Err-clause-fault
returns-in-Err-clause-fault g c =
    λ e. rose_later _ _ _ (c.loop-reader.invariant.only_reads.later.read c.args.name.now) (c.in-Err.ensures.fault (err_of _ _ e))

pub returns-in-Err-clause-only_reads : goal.returns-in-Err-clause-only_reads
returns-in-Err-clause-only_reads g c = reads_still _ _ _ _ _ _ c.loop-reader.invariant.only_reads c.feed_piece.ensures.only_reads
