use Rattle.std.proofs.Common.{subst, arith, []}
use Rattle.q_io.specs.Files.{bytes_at}
use Rattle.q_io.proofs.FaultCounts.{reads_at_once, reads_still, rose_later}
use Rattle.q_dimacs.specs.Scanning.{HasRead}
use Rattle.q_command.proofs.FilePieces.{if_some, if_some_2, at_same, begins, starts, ends_formula, ends_refused, ends_limits, err_of}
use Rattle.q_command.proofs.input.read_formula.Goals as goal

pub loop-reader-init : goal.loop-reader-init
loop-reader-init g c =
    record {
      reading = starts _ (subst (λ m. HasRead m [] c.in-Ok.reader) c.standard.ensures c.in-Ok.ensures.start);
      front = if_some (g.F.Files.held c.args.files.now) (λ d. begins _ _ (subst (λ m. HasRead m [] c.in-Ok.reader) c.standard.ensures c.in-Ok.ensures.start));
      only_reads = reads_at_once _ _ _ _;
    }

pub feed_piece-requires-clause-place : goal.feed_piece-requires-clause-place
feed_piece-requires-clause-place g c = c.loop-reader.invariant.reading.within

pub feed_piece-requires-clause-reading : goal.feed_piece-requires-clause-reading
feed_piece-requires-clause-reading g c = c.loop-reader.invariant.reading

pub returns-in-Ok-eq0-clause-formula : goal.returns-in-Ok-eq0-clause-formula
returns-in-Ok-eq0-clause-formula g c =
    let fed = at_same _ _ _ c.loop-reader.invariant.only_reads.same c.in-Ok-eq0.ensures.fed in
    ends_formula (g.F.Files.held c.args.files.now) (λ d. bytes_at d c.args.name.now) _ _ _ _ c.finish.result c.in-Ok-eq0.field-0-test c.loop-reader.invariant.front fed c.finish.ensures.formula

pub returns-in-Ok-eq0-clause-refused : goal.returns-in-Ok-eq0-clause-refused
returns-in-Ok-eq0-clause-refused g c =
    let fed = at_same _ _ _ c.loop-reader.invariant.only_reads.same c.in-Ok-eq0.ensures.fed in
    ends_refused (g.F.Files.held c.args.files.now) (λ d. bytes_at d c.args.name.now) _ _ _ _ c.finish.result c.in-Ok-eq0.field-0-test c.loop-reader.invariant.front fed c.finish.ensures.refused

pub returns-in-Ok-eq0-clause-only_reads : goal.returns-in-Ok-eq0-clause-only_reads
returns-in-Ok-eq0-clause-only_reads g c = reads_still _ _ _ _ _ _ c.loop-reader.invariant.only_reads c.feed_piece.ensures.only_reads

pub loop-reader-smaller : goal.loop-reader-smaller
loop-reader-smaller g c =
    omega (arith, c.in-Ok-feed_piece.count-test.1, c.in-Ok-feed_piece.ensures.reading.within)

pub loop-reader-preserved : goal.loop-reader-preserved
loop-reader-preserved g c =
    let fed = at_same _ _ _ c.loop-reader.invariant.only_reads.same c.in-Ok-feed_piece.ensures.fed in
    record {
      reading = c.in-Ok-feed_piece.ensures.reading;
      front = if_some_2 (g.F.Files.held c.args.files.now) c.loop-reader.invariant.front fed (λ d f p. p.further f);
      only_reads = reads_still _ _ _ _ _ _ c.loop-reader.invariant.only_reads c.feed_piece.ensures.only_reads;
    }

pub returns-in-Err-feed_piece-clause-refused : goal.returns-in-Err-feed_piece-clause-refused
returns-in-Err-feed_piece-clause-refused g c =
    let stopped = at_same _ _ _ c.loop-reader.invariant.only_reads.same c.in-Err-feed_piece.ensures.refused in
    if_some_2 (g.F.Files.held c.args.files.now) c.loop-reader.invariant.front stopped (λ d f h. h f)

pub returns-in-Err-feed_piece-clause-fault : goal.returns-in-Err-feed_piece-clause-fault
returns-in-Err-feed_piece-clause-fault g c =
    λ e. rose_later _ _ _ (c.loop-reader.invariant.only_reads.later.read c.args.name.now) (c.in-Err-feed_piece.ensures.fault (err_of _ _ e))

pub returns-in-Err-feed_piece-clause-only_reads : goal.returns-in-Err-feed_piece-clause-only_reads
returns-in-Err-feed_piece-clause-only_reads g c = reads_still _ _ _ _ _ _ c.loop-reader.invariant.only_reads c.feed_piece.ensures.only_reads

pub returns-in-Ok-eq0-clause-limits : goal.returns-in-Ok-eq0-clause-limits
returns-in-Ok-eq0-clause-limits g c = ends_limits c.finish.result c.feed_piece.new.reader c.in-Ok-eq0.ensures.reading c.finish.ensures.limits
