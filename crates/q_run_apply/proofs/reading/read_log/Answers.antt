use Rattle.std.proofs.Common.{arith}
use Rattle.q_io.specs.Files.{bytes_at}
use Rattle.q_io.proofs.FaultCounts.{reads_at_once, reads_still, rose_later}
use Rattle.q_command.proofs.FilePieces.{if_some, if_some_2, at_same, err_of, err_goes, ok_goes}
use Rattle.q_run_apply.proofs.ApplyReading.{reaches_begin, reaches_more, made_whole, refused_whole, refused_early}
use Rattle.q_run_apply.proofs.reading.read_log.Goals as goal

pub loop-reading-init : goal.loop-reading-init
loop-reading-init g c =
    record {
      goes_on = c.requires.goes_on;
      left = omega (arith, c.requires.left);
      front = if_some (g.F.Files.held c.args.files.now) (λ disk. reaches_begin (bytes_at disk c.args.name.now) c.args.reading c.requires.goes_on);
      only_reads = reads_at_once _ _ _ _;
    }

pub returns-in-Ok-eq0-clause-made : goal.returns-in-Ok-eq0-clause-made
returns-in-Ok-eq0-clause-made g c =
    let taken = at_same _ _ _ c.loop-reading.invariant.only_reads.same c.in-Ok-eq0.ensures.taken in
    ok_goes _ c.finish.result (g.F.Files.held c.args.files.now) c.finish.ensures.made
    (λ m l. if_some_2 (g.F.Files.held c.args.files.now) c.loop-reading.invariant.front taken
    (λ disk f p. made_whole (bytes_at disk c.args.name.now) _ _ c.args.reading _ c.read_piece.new.self m c.in-Ok-eq0.field-0-test f p l))

pub returns-in-Ok-eq0-clause-refused : goal.returns-in-Ok-eq0-clause-refused
returns-in-Ok-eq0-clause-refused g c =
    let taken = at_same _ _ _ c.loop-reading.invariant.only_reads.same c.in-Ok-eq0.ensures.taken in
    err_goes _ c.finish.result (g.F.Files.held c.args.files.now) c.finish.ensures.refused
    (λ w r. if_some_2 (g.F.Files.held c.args.files.now) c.loop-reading.invariant.front taken
    (λ disk f p. refused_whole (bytes_at disk c.args.name.now) _ _ c.args.reading _ c.read_piece.new.self w c.in-Ok-eq0.field-0-test f p r))

pub loop-reading-preserved : goal.loop-reading-preserved
loop-reading-preserved g c =
    let taken = at_same _ _ _ c.loop-reading.invariant.only_reads.same c.in-Ok.ensures.taken in
    record {
      goes_on = c.in-Ok.ensures.goes_on;
      left = omega (arith, c.in-Ok.ensures.left, c.loop-reading.invariant.left);
      front = if_some_2 (g.F.Files.held c.args.files.now) c.loop-reading.invariant.front taken (λ disk f p. reaches_more _ _ _ _ _ _ f p);
      only_reads = reads_still _ _ _ _ _ _ c.loop-reading.invariant.only_reads c.read_piece.ensures.only_reads;
    }

pub returns-in-Err-clause-refused : goal.returns-in-Err-clause-refused
returns-in-Err-clause-refused g c =
    let refused = at_same _ _ _ c.loop-reading.invariant.only_reads.same c.in-Err.ensures.refused in
    if_some_2 (g.F.Files.held c.args.files.now) c.loop-reading.invariant.front refused
    (λ disk f r. refused_early (bytes_at disk c.args.name.now) c.loop-reading.at c.args.reading c.loop-reading.reading c.in-Err.outcome f r)

pub returns-in-Ok-eq0-clause-only_reads : goal.returns-in-Ok-eq0-clause-only_reads
returns-in-Ok-eq0-clause-only_reads g c = reads_still _ _ _ _ _ _ c.loop-reading.invariant.only_reads c.read_piece.ensures.only_reads

pub returns-in-Err-clause-fault : goal.returns-in-Err-clause-fault
returns-in-Err-clause-fault g c =
    λ e. rose_later _ _ _ (c.loop-reading.invariant.only_reads.later.read c.args.name.now) (c.in-Err.ensures.fault (err_of _ _ e))

pub returns-in-Err-clause-only_reads : goal.returns-in-Err-clause-only_reads
returns-in-Err-clause-only_reads g c = reads_still _ _ _ _ _ _ c.loop-reading.invariant.only_reads c.read_piece.ensures.only_reads
