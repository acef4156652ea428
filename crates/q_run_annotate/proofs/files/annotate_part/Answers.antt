use Rattle.std.proofs.Common.{inr}
use Rattle.q_command.proofs.FilePieces.{at_same, if_some_2}
use Rattle.q_io.specs.Files.{bytes_at}
use Rattle.q_command.specs.Parts.{share_of}
use Rattle.q_run_annotate.specs.Annotates.{files_of}
use Rattle.q_run_annotate.specs.AnnotatedShares.{IsShareAnnotation}
use Rattle.q_run_annotate.proofs.AnnotateOutcome.{part, whole}
use Rattle.q_run_annotate.proofs.files.annotate_part.Goals as goal

pub returns-in-Ok-write_whole-clause-annotates : goal.returns-in-Ok-write_whole-clause-annotates
returns-in-Ok-write_whole-clause-annotates g c =
    let w = at_same _ _ _ c.in-Ok.ensures.only_reads.same (rw c.deref.ensures.value at c.in-Ok-write_whole.ensures.whole) in
    if_some_2 (g.F.Files.held c.args.files.now) c.in-Ok.ensures.annotated w
    (λ disk p x. whole (IsShareAnnotation (share_of c.args.part) (bytes_at disk c.args.names.log.now)) (files_of c.args.names) disk (g.F.Files.held c.write_whole.new.files) c.in-Ok.hinted.steps c.in-Ok.hinted.text.items p x)

pub returns-in-Err-Failed-clause-annotates : goal.returns-in-Err-Failed-clause-annotates
returns-in-Err-Failed-clause-annotates g c =
    let w = at_same _ _ _ c.in-Ok.ensures.only_reads.same (rw c.deref.ensures.value at c.in-Err-Failed.ensures.part) in
    if_some_2 (g.F.Files.held c.args.files.now) c.in-Ok.ensures.annotated w
    (λ disk p x. part (IsShareAnnotation (share_of c.args.part) (bytes_at disk c.args.names.log.now)) (files_of c.args.names) disk (g.F.Files.held c.write_whole.new.files) c.in-Ok.hinted.steps c.in-Ok.hinted.text.items p x)

pub returns-clause-annotates : goal.returns-clause-annotates
returns-clause-annotates g c =
    let w = at_same _ _ _ c.in-Ok.ensures.only_reads.same (rw c.deref.ensures.value at c.in-Err-NoMemory.ensures.part) in
    if_some_2 (g.F.Files.held c.args.files.now) c.in-Ok.ensures.annotated w
    (λ disk p x. inr (part (IsShareAnnotation (share_of c.args.part) (bytes_at disk c.args.names.log.now)) (files_of c.args.names) disk (g.F.Files.held c.write_whole.new.files) c.in-Ok.hinted.steps c.in-Ok.hinted.text.items p x))
