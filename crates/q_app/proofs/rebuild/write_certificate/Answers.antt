use Rattle.std.proofs.Common.{◌∙◌, ap, sym, subst, Err}
use Rattle.std.proofs.lemmas.Option.{IfSome_then}
use Rattle.q_app.specs.Rebuilds.{Puts}
use Rattle.q_app.specs.declared.rebuilt.Rebuilt.{Rebuilt}
use Rattle.q_app.proofs.RebuildFiles.{leaves-puts, failed_write-fault}
use Rattle.q_app.proofs.rebuild.write_certificate.Goals as goal

pub returns-in-Err-clause-puts : goal.returns-in-Err-clause-puts
returns-in-Err-clause-puts g c =
    IfSome_then (g.F.Files.held c.args.files.now) c.in-Err.ensures.left
    (λ disk h. subst (λ (r : Rebuilt). Puts r c.args.made.now c.args.cert.now disk (g.F.Files.held c.write_circuits.new.files)) (sym c.unwritten.ensures.is) (leaves-puts c.in-Err.error c.args.made.now c.args.cert.now disk (g.F.Files.held c.write_circuits.new.files) h))

pub returns-in-Err-clause-cause : goal.returns-in-Err-clause-cause
returns-in-Err-clause-cause g c = λ e.
    c.in-Err.ensures.fault (ap Err (failed_write-fault c.in-Err.error (sym c.unwritten.ensures.is ∙ e)))
