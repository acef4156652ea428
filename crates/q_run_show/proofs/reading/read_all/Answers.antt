use Rattle.std.proofs.Common.{arith}
use Rattle.q_io.specs.Files.{bytes_at}
use Rattle.q_io.proofs.FaultCounts.{reads_at_once, reads_still, rose_later}
use Rattle.q_command.proofs.FilePieces.{if_some, if_some_2, at_same}
use Rattle.q_run_show.proofs.ProofReading.{tries_begin, tries_more, tells_all, tells_whole}
use Rattle.q_run_show.proofs.reading.read_all.Goals as goal

pub loop-reading-init : goal.loop-reading-init
loop-reading-init g c =
    record {
      goes_on = c.requires.goes_on;
      left = omega (arith, c.requires.left);
      front = if_some (g.F.Files.held c.args.files.now) (λ disk. tries_begin (bytes_at disk c.args.name.now) c.args.reading c.requires.goes_on);
      only_reads = reads_at_once _ _ _ _;
    }

pub loop-reading-preserved : goal.loop-reading-preserved
loop-reading-preserved g c =
    let taken = at_same _ _ _ c.loop-reading.invariant.only_reads.same c.in-Ok.ensures.taken in
    record {
      goes_on = c.in-Ok.ensures.goes_on;
      left = omega (arith, c.in-Ok.ensures.left, c.loop-reading.invariant.left);
      front = if_some_2 (g.F.Files.held c.args.files.now) c.loop-reading.invariant.front taken (λ disk f p. tries_more _ _ _ _ _ _ f p);
      only_reads = reads_still _ _ _ _ _ _ c.loop-reading.invariant.only_reads c.read_piece.ensures.only_reads;
    }

pub returns-in-Ok-eq0-clause-tells : goal.returns-in-Ok-eq0-clause-tells
returns-in-Ok-eq0-clause-tells g c =
    let taken = at_same _ _ _ c.loop-reading.invariant.only_reads.same c.in-Ok-eq0.ensures.taken in
    if_some_2 (g.F.Files.held c.args.files.now) c.loop-reading.invariant.front taken
    (λ disk f p. tells_all (bytes_at disk c.args.name.now) _ _ c.args.reading _ c.read_piece.new.self c.finish.result c.in-Ok-eq0.field-0-test f p c.finish.ensures.tells)

pub returns-in-Ok-eq0-clause-only_reads : goal.returns-in-Ok-eq0-clause-only_reads
returns-in-Ok-eq0-clause-only_reads g c = reads_still _ _ _ _ _ _ c.loop-reading.invariant.only_reads c.read_piece.ensures.only_reads

pub returns-in-Err-clause-tells : goal.returns-in-Err-clause-tells
returns-in-Err-clause-tells g c =
    let tells = at_same _ _ _ c.loop-reading.invariant.only_reads.same c.in-Err.ensures.tells in
    if_some_2 (g.F.Files.held c.args.files.now) c.loop-reading.invariant.front tells
    (λ disk f r. tells_whole (bytes_at disk c.args.name.now) c.loop-reading.at c.args.reading c.loop-reading.reading c.in-Err.ending f r)

pub returns-in-Err-clause-fault : goal.returns-in-Err-clause-fault
returns-in-Err-clause-fault g c =
    λ e. rose_later _ _ _ (c.loop-reading.invariant.only_reads.later.read c.args.name.now) (c.in-Err.ensures.fault e)

pub returns-in-Err-clause-only_reads : goal.returns-in-Err-clause-only_reads
returns-in-Err-clause-only_reads g c = reads_still _ _ _ _ _ _ c.loop-reading.invariant.only_reads c.read_piece.ensures.only_reads
