use Rattle.std.proofs.lemmas.Option.{IfSome_then}
use Rattle.q_command.specs.Parts.{share_of}
use Rattle.q_run_annotate.specs.Annotates.{files_of}
use Rattle.q_run_annotate.proofs.WholeParts.{whole-annotates}
use Rattle.q_run_annotate.proofs.files.annotate_files.Goals as goal

pub returns-clause-annotates : goal.returns-clause-annotates
returns-clause-annotates g c =
    IfSome_then (g.F.Files.held c.args.files.now) c.annotate_part.ensures.annotates
    (λ disk h. whole-annotates (share_of c.whole.result) c.whole.ensures c.annotate_part.result (files_of c.args.names) disk (g.F.Files.held c.annotate_part.new.files) h)
