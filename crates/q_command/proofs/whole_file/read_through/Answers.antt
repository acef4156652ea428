use Rattle.std.proofs.Common.{arith, inl}
use Rattle.std.proofs.lemmas.Option.{IfSome_then}
use Rattle.q_io.specs.Files.{bytes_at}
use Rattle.q_io.proofs.FaultCounts.{reads_still}
use Rattle.q_command.specs.Texts.{IsTextOf}
use Rattle.q_command.proofs.FilePieces.{if_some_2, at_same, ok_goes}
use Rattle.q_command.proofs.WholeFiles.{front-more, front-end, front-long}
use Rattle.q_command.proofs.whole_file.read_through.Goals as goal

pub loop-at-preserved : goal.loop-at-preserved
loop-at-preserved g c =
    let taken = at_same _ _ _ c.loop-at.invariant.only_reads.same c.in-Ok.ensures.appended in
    record {
      front = if_some_2 (g.F.Files.held c.args.files.now) c.loop-at.invariant.front taken (λ disk f p. front-more _ _ _ _ _ f p);
      bound = omega (arith, c.loop-at-test.true, c.in-Ok.ensures.count);
      only_reads = reads_still _ _ _ _ _ _ c.loop-at.invariant.only_reads c.append_piece.ensures.only_reads;
    }

pub returns-in-Ok-eq0-clause-bytes : goal.returns-in-Ok-eq0-clause-bytes
returns-in-Ok-eq0-clause-bytes g c =
    let taken = at_same _ _ _ c.loop-at.invariant.only_reads.same c.in-Ok-eq0.ensures.appended in
    if_some_2 (g.F.Files.held c.args.files.now) c.loop-at.invariant.front taken (λ disk f p. inl (front-end _ _ _ _ _ c.in-Ok-eq0.field-0-test f p))

pub returns-clause-bytes : goal.returns-clause-bytes
returns-clause-bytes g c =
    ok_goes (λ t disk. IsTextOf (bytes_at disk c.args.name.now) t.items) c.long_front.result (g.F.Files.held c.args.files.now) c.long_front.ensures.front
    (λ t p. IfSome_then (g.F.Files.held c.args.files.now) c.loop-at.invariant.front (λ disk f. front-long _ _ _ _ c.loop-at-test.false f p.0 p.1))
