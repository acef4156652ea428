use Rattle.std.proofs.Common.{sym, ap, ◌∙◌}
use Rattle.q_run_extract.specs.Extracts.{claim_of}
use Rattle.q_run_extract.proofs.ExtractFiles.{said-of, puts-joined}
use Rattle.q_run_extract.proofs.extract.settle.Goals as goal

pub returns-in-Ok-Proved-clause-settles : goal.returns-in-Ok-Proved-clause-settles
returns-in-Ok-Proved-clause-settles g c =
    let said = said-of c.args.trace.now.verdict c.in-Some.claim (ap claim_of (sym c.verdict.ensures) ∙ (sym c.claim_of.ensures ∙ c.in-Some.is)) in
    let judged = rw c.in-Ok-Proved.field-0-is at c.in-Ok-Proved.ensures in
    puts-joined (g.F.Files.held c.args.files.now) (g.F.Files.held c.write_certificate.new.files) c.write_certificate.result c.in-Some.claim c.args.formula.now c.args.trace.now c.in-Ok-Proved.made c.args.cert.now said judged c.write_certificate.ensures.puts
