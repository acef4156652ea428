use Rattle.std.proofs.Common.{IfSome, sym, subst}
use Rattle.q_herbrand.specs.Trails.{Trailed}
use Rattle.q_herbrand.specs.Disproved.{IsDisproved}
use Rattle.q_run_disprove.specs.Settling.{Settles}
use Rattle.q_run_disprove.specs.declared.notes.Notes.{Notes}
use Rattle.q_run_disprove.proofs.CertifyOutcome.{put-kept}
use Rattle.q_run_disprove.proofs.certifying.certify.Goals as goal

pub returns-in-Ok-clause-settles : goal.returns-in-Ok-clause-settles
returns-in-Ok-clause-settles g c =
    subst (λ (ns : Notes). IfSome (g.F.Files.held c.args.files.now) (λ disk. Settles ns c.args.steps c.write_certificate.result c.args.cert.now disk (g.F.Files.held c.write_certificate.new.files)))
    (sym c.in-Kept.is)
    (put-kept c.in-Kept.formula c.in-Kept.trail c.args.steps c.write_certificate.result c.in-Ok.made c.args.cert.now (g.F.Files.held c.args.files.now) (g.F.Files.held c.write_certificate.new.files)
    (subst (λ (t : Trailed). IsDisproved c.in-Kept.formula t c.in-Ok.made) c.take.ensures c.in-Ok.ensures) c.write_certificate.ensures.puts)
