use Rattle.std.proofs.lemmas.Option.{IfSome_then}
use Rattle.q_logic.proofs.Common.{ok_then}
use Rattle.q_io.specs.Files.{bytes_at}
use Rattle.q_command.specs.Parts.{share_of}
use Rattle.q_command.proofs.FilePieces.{err_then}
use Rattle.q_command.proofs.LogEnd.{kept_run, leads_back}
use Rattle.q_command.proofs.WholeShares.{whole-says, whole-taken}
use Rattle.q_command.proofs.checking.check_log.Goals as goal

pub check_part_of_log-requires-clause-undo : goal.check_part_of_log-requires-clause-undo
check_part_of_log-requires-clause-undo g c = λ k e. let w = c.whole.ensures k in cc

pub returns-clause-taken : goal.returns-clause-taken
returns-clause-taken g c =
    ok_then c.check_part_of_log.result c.check_part_of_log.ensures.taken
    (λ p h input held. IfSome_then (g.F.Files.held c.args.files.now) (h input held)
    (λ disk t. whole-taken (share_of c.whole.result) c.whole.ensures c.args.claim.keep (bytes_at disk c.args.name.now) input c.args.claim.output.now p t))

pub returns-clause-held : goal.returns-clause-held
returns-clause-held g c =
    ok_then c.check_part_of_log.result c.check_part_of_log.ensures.leads (λ p h input held. (h input held).1.origin)

pub returns-clause-run : goal.returns-clause-run
returns-clause-run g c =
    ok_then c.check_part_of_log.result c.check_part_of_log.ensures.leads
    (λ p h input held. let x = h input held in
    leads_back c.args.claim.keep input c.args.claim.output.now p (x.0, whole-taken (share_of c.whole.result) c.whole.ensures c.args.claim.keep x.0 input c.args.claim.output.now p x.1))

pub returns-clause-kept : goal.returns-clause-kept
returns-clause-kept g c =
    ok_then c.check_part_of_log.result c.check_part_of_log.ensures.leads
    (λ p h input held. let x = h input held in
    kept_run c.args.claim.keep input c.args.claim.output.now p (x.0, whole-taken (share_of c.whole.result) c.whole.ensures c.args.claim.keep x.0 input c.args.claim.output.now p x.1))

pub returns-clause-says : goal.returns-clause-says
returns-clause-says g c =
    err_then c.check_part_of_log.result c.check_part_of_log.ensures.says
    (λ w h input held. IfSome_then (g.F.Files.held c.args.files.now) (h input held)
    (λ disk s. whole-says (share_of c.whole.result) c.whole.ensures w input c.args.claim.output.now (bytes_at disk c.args.name.now) s))
