use Rattle.std.proofs.Common.{◌∙◌, ap, sym, subst, Err}
use Rattle.std.proofs.lemmas.Option.{IfSome_then}
use Rattle.q_io.specs.Files.{bytes_at}
use Rattle.q_command.proofs.FilePieces.{err-is}
use Rattle.q_app.specs.Rebuilds.{CircuitsFail}
use Rattle.q_app.specs.declared.rebuilt.Rebuilt.{Rebuilt}
use Rattle.q_app.proofs.RebuildFiles.{no_text-fails, no_circuits-fault}
use Rattle.q_app.proofs.rebuild.carry_back.Goals as goal

pub returns-in-Err-clause-refused : goal.returns-in-Err-clause-refused
returns-in-Err-clause-refused g c =
    IfSome_then (g.F.Files.held c.args.files.now) c.in-Err.ensures.refused
    (λ disk h. subst (λ (r : Rebuilt). CircuitsFail r c.args.checked.now.to (bytes_at disk c.args.skolem.now)) (sym c.unread.ensures.is) (no_text-fails c.in-Err.error c.args.checked.now.to (bytes_at disk c.args.skolem.now) h))

pub returns-in-Err-clause-fault : goal.returns-in-Err-clause-fault
returns-in-Err-clause-fault g c = λ e.
    c.in-Err.ensures.fault (ap Err (no_circuits-fault c.in-Err.error (sym c.unread.ensures.is ∙ err-is _ _ e)))
