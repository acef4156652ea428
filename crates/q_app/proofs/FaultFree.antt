-- What is shown of each command, and that its answer comes where no fault does.
use Rattle.q_command.proofs.CheckLaws as check
use Rattle.q_command.proofs.PartStatus as part
use Rattle.q_command.proofs.ToldLaws as law
use Rattle.q_command.proofs.ToldLaws.{ToldLaws}
use Rattle.q_run_solve.proofs.SolveStatus as solve
use Rattle.q_run_annotate.proofs.AnnotateStatus as annotate
use Rattle.q_run_annotate.proofs.PartStatus as annotated_part
use Rattle.q_run_refute.proofs.RefuteStatus as refute
use Rattle.q_run_validate.proofs.ValidateStatus as validate
use Rattle.q_run_extract.proofs.ExtractStatus as extract
use Rattle.q_run_miter.proofs.MiterStatus as miter
use Rattle.q_run_disprove.proofs.DisproveStatus as disprove
use Rattle.q_run_disprove.proofs.SharedStatus as disproved_part
use Rattle.q_run_disprove.proofs.CertifyStatus as certify
use Rattle.q_run_apply.proofs.ApplyStatus as apply
use Rattle.q_run_show.proofs.ShowStatus as show
use Rattle.q_app.specs.Words.{applying, certifying, showing}
use Rattle.q_app.specs.Completeness.{EachCompletes}
use Rattle.q_app.specs.Told.{told}
use Rattle.q_app.specs.Words.{Command, checking, sharing, simplifying, rebuilding, generating, solving, annotating, annotating_part, refuting, validating, mitering, extracting, disproving, disproving_part}
use Rattle.q_app.proofs.GenStatus as generate
use Rattle.q_app.proofs.RebuildStatus as rebuild
use Rattle.q_app.proofs.SimplifyStatus as simplify

pub laws : (c : Command) → ToldLaws (told c)
laws (checking n) = check.laws n
laws (sharing n p) = part.laws n p
laws (simplifying n o) = simplify.laws n o
laws (rebuilding n) = rebuild.laws n
laws (generating k name) = generate.laws k name
laws (solving n b) = solve.laws n b
laws (annotating n) = annotate.laws n
laws (annotating_part n p) = annotated_part.laws n p
laws (showing n b p) = show.laws n b p
laws (refuting n) = refute.laws n
laws (validating n b) = validate.laws n b
laws (mitering n s) = miter.laws n s
laws (extracting n) = extract.laws n
laws (disproving n b) = disprove.laws n b
laws (disproving_part n b p) = disproved_part.laws n b p
laws (certifying n b) = certify.laws n b
laws (applying n) = apply.laws n

pub completes : EachCompletes
completes c before given after r = law.completes (told c) (laws c) before given after r
