-- What is told of each command: each in the file of its own.
use Rattle.q_command.specs.Checks as check
use Rattle.q_command.specs.Parts as part
use Rattle.q_command.specs.Told.{Told}
use Rattle.q_app.specs.Simplifying as simplify
use Rattle.q_app.specs.Rebuilds as rebuild
use Rattle.q_app.specs.Generating as generate
use Rattle.q_run_solve.specs.Solves as solve
use Rattle.q_run_annotate.specs.Annotates as annotate
use Rattle.q_run_annotate.specs.AnnotatedParts as annotated_part
use Rattle.q_run_refute.specs.Refutes as refute
use Rattle.q_run_validate.specs.Validates as validate
use Rattle.q_run_extract.specs.Extracts as extract
use Rattle.q_run_miter.specs.Mitering as miter
use Rattle.q_app.specs.Words.{Command, checking, sharing, simplifying, rebuilding, generating, solving, annotating, annotating_part, refuting, validating, mitering, extracting, disproving, disproving_part}
use Rattle.q_run_disprove.specs.HintedDisproofs as disprove
use Rattle.q_run_disprove.specs.SharedDisproofs as disproved_part
use Rattle.q_run_disprove.specs.Certifying as certify
use Rattle.q_run_apply.specs.Applications as apply
use Rattle.q_run_show.specs.Shows as show
use Rattle.q_app.specs.Words.{applying, certifying, showing}

abbrev pub told : Command → Told
told (checking n) = check.told n
told (sharing n p) = part.told n p
told (simplifying n o) = simplify.told n o
told (rebuilding n) = rebuild.told n
told (generating k name) = generate.told k name
told (solving n b) = solve.told n b
told (annotating n) = annotate.told n
told (annotating_part n p) = annotated_part.told n p
told (showing n b p) = show.told n b p
told (refuting n) = refute.told n
told (validating n b) = validate.told n b
told (mitering n s) = miter.told n s
told (extracting n) = extract.told n
told (disproving n b) = disprove.told n b
told (disproving_part n b p) = disproved_part.told_part n b p
told (certifying n b) = certify.told n b
told (applying n) = apply.told n
