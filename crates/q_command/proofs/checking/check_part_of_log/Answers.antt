use Rattle.std.proofs.Common.{[], arith}
use Rattle.q_logic.proofs.Common.{ok_then}
use Rattle.q_io.specs.Files.{bytes_at}
use Rattle.q_io.proofs.FaultCounts.{reads_at_once, reads_still, rose_later}
use Rattle.q_command.proofs.FilePieces.{if_some, if_some_2, at_same, err_of, err_then}
use Rattle.q_command.proofs.AuditSteps.{advances_begin, advances_through, tries_begin, tries_more, tries_end, refuses_whole}
use Rattle.q_command.proofs.LogEnd.{some_log, log_is_taken, log_says, log_refuses}
use Rattle.q_command.proofs.checking.check_part_of_log.Goals as goal

pub loop-audit-init : goal.loop-audit-init
loop-audit-init g c =
    record {
      goes_on = c.in-Ok.ensures.goes_on;
      advanced = ([], advances_begin c.in-Ok.audit c.in-Ok.ensures.goes_on);
      left = omega (arith, c.in-Ok.ensures.left);
      front = if_some (g.F.Files.held c.args.files.now) (λ disk. tries_begin (bytes_at disk c.args.name.now) c.in-Ok.audit c.in-Ok.ensures.goes_on);
      only_reads = reads_at_once _ _ _ _;
    }

pub returns-in-Ok-eq0-clause-says : goal.returns-in-Ok-eq0-clause-says
returns-in-Ok-eq0-clause-says g c =
    let taken = at_same _ _ _ c.loop-audit.invariant.only_reads.same c.in-Ok-eq0.ensures.taken in
    err_then c.finish.result c.finish.ensures.refused
    (λ w h input held. if_some_2 (g.F.Files.held c.args.files.now) c.loop-audit.invariant.front taken
    (λ disk f p. log_says c.in-Ok.audit c.read_piece.new.self c.args.claim.keep c.args.part input c.args.claim.output.now (bytes_at disk c.args.name.now) w (c.in-Ok.ensures.start input held) (tries_end _ _ _ _ _ _ c.in-Ok-eq0.field-0-test f p) h))

pub returns-in-Ok-eq0-clause-leads : goal.returns-in-Ok-eq0-clause-leads
returns-in-Ok-eq0-clause-leads g c =
    let all = advances_through _ _ _ c.loop-audit.invariant.advanced c.in-Ok-eq0.ensures.advances in
    ok_then c.finish.result c.finish.ensures.passed
    (λ p h input held. some_log c.in-Ok.audit c.read_piece.new.self c.args.claim.keep c.args.part input c.args.claim.output.now p (c.in-Ok.ensures.start input held) all h)

pub returns-in-Ok-eq0-clause-taken : goal.returns-in-Ok-eq0-clause-taken
returns-in-Ok-eq0-clause-taken g c =
    let taken = at_same _ _ _ c.loop-audit.invariant.only_reads.same c.in-Ok-eq0.ensures.taken in
    ok_then c.finish.result c.finish.ensures.passed
    (λ p h input held. if_some_2 (g.F.Files.held c.args.files.now) c.loop-audit.invariant.front taken
    (λ disk f q. log_is_taken c.in-Ok.audit c.read_piece.new.self c.args.claim.keep c.args.part input c.args.claim.output.now (bytes_at disk c.args.name.now) p (c.in-Ok.ensures.start input held) (tries_end _ _ _ _ _ _ c.in-Ok-eq0.field-0-test f q) h))

pub loop-audit-preserved : goal.loop-audit-preserved
loop-audit-preserved g c =
    let taken = at_same _ _ _ c.loop-audit.invariant.only_reads.same c.in-Ok-read_piece.ensures.taken in
    record {
      goes_on = c.in-Ok-read_piece.ensures.goes_on;
      advanced = advances_through _ _ _ c.loop-audit.invariant.advanced c.in-Ok-read_piece.ensures.advances;
      left = omega (arith, c.in-Ok-read_piece.ensures.left, c.loop-audit.invariant.left);
      front = if_some_2 (g.F.Files.held c.args.files.now) c.loop-audit.invariant.front taken (λ disk f p. tries_more _ _ _ _ _ _ f p);
      only_reads = reads_still _ _ _ _ _ _ c.loop-audit.invariant.only_reads c.read_piece.ensures.only_reads;
    }

pub returns-in-Err-clause-says : goal.returns-in-Err-clause-says
returns-in-Err-clause-says g c = λ input held.
    let refused = at_same _ _ _ c.loop-audit.invariant.only_reads.same c.in-Err.ensures.refused in
    if_some_2 (g.F.Files.held c.args.files.now) c.loop-audit.invariant.front refused
    (λ disk f r. log_refuses c.in-Ok.audit c.args.claim.keep c.args.part input c.args.claim.output.now (bytes_at disk c.args.name.now) c.in-Err.outcome (c.in-Ok.ensures.start input held) (refuses_whole _ _ _ _ _ f r))

pub returns-in-Ok-eq0-clause-only_reads : goal.returns-in-Ok-eq0-clause-only_reads
returns-in-Ok-eq0-clause-only_reads g c = reads_still _ _ _ _ _ _ c.loop-audit.invariant.only_reads c.read_piece.ensures.only_reads

pub returns-in-Err-clause-fault : goal.returns-in-Err-clause-fault
returns-in-Err-clause-fault g c =
    λ e. rose_later _ _ _ (c.loop-audit.invariant.only_reads.later.read c.args.name.now) (c.in-Err.ensures.fault (err_of _ _ e))

pub returns-in-Err-clause-only_reads : goal.returns-in-Err-clause-only_reads
returns-in-Err-clause-only_reads g c = reads_still _ _ _ _ _ _ c.loop-audit.invariant.only_reads c.read_piece.ensures.only_reads
