use Rattle.std.proofs.Common.{inr}
use Rattle.q_command.proofs.FilePieces.{at_same, if_some_2}
use Rattle.q_command.specs.Parts.{share_of}
use Rattle.q_run_show.specs.Shows.{files_of}
use Rattle.q_run_show.proofs.ShowOutcome.{part, whole}
use Rattle.q_run_show.proofs.files.show_files.Goals as goal

pub returns-in-Ok-write_whole-clause-shows : goal.returns-in-Ok-write_whole-clause-shows
returns-in-Ok-write_whole-clause-shows g c =
    let w = at_same _ _ _ c.in-Ok.ensures.only_reads.same (rw c.deref.ensures.value at c.in-Ok-write_whole.ensures.whole) in
    if_some_2 (g.F.Files.held c.args.files.now) c.in-Ok.ensures.shown w
    (λ disk p x. whole (share_of c.args.part) (files_of c.args.names) c.args.binary disk (g.F.Files.held c.write_whole.new.files) c.in-Ok.hinted.steps c.in-Ok.hinted.text.items p x)

pub returns-in-Err-Failed-clause-shows : goal.returns-in-Err-Failed-clause-shows
returns-in-Err-Failed-clause-shows g c =
    let w = at_same _ _ _ c.in-Ok.ensures.only_reads.same (rw c.deref.ensures.value at c.in-Err-Failed.ensures.part) in
    if_some_2 (g.F.Files.held c.args.files.now) c.in-Ok.ensures.shown w
    (λ disk p x. part (share_of c.args.part) (files_of c.args.names) c.args.binary disk (g.F.Files.held c.write_whole.new.files) c.in-Ok.hinted.steps c.in-Ok.hinted.text.items p x)

pub returns-clause-shows : goal.returns-clause-shows
returns-clause-shows g c =
    let w = at_same _ _ _ c.in-Ok.ensures.only_reads.same (rw c.deref.ensures.value at c.in-Err-NoMemory.ensures.part) in
    if_some_2 (g.F.Files.held c.args.files.now) c.in-Ok.ensures.shown w
    (λ disk p x. inr (part (share_of c.args.part) (files_of c.args.names) c.args.binary disk (g.F.Files.held c.write_whole.new.files) c.in-Ok.hinted.steps c.in-Ok.hinted.text.items p x))
