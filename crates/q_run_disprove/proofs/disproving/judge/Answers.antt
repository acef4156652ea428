use Rattle.std.proofs.lemmas.Option.{IfSome_then}
use Rattle.q_io.specs.Files.{bytes_at}
use Rattle.q_command.proofs.FilePieces.{if_some}
use Rattle.q_command.specs.Parts.{share_of}
use Rattle.q_run_disprove.proofs.JudgedSteps.{says-lost}
use Rattle.q_run_disprove.proofs.DisproveOutcome.{told-whole}
use Rattle.q_run_disprove.proofs.disproving.judge.Goals as goal

pub returns-in-Ok-start-clause-says : goal.returns-in-Ok-start-clause-says
returns-in-Ok-start-clause-says g c =
    IfSome_then (g.F.Files.held c.args.files.now) c.read_proof.ensures.tells
    (λ disk t. told-whole c.read_proof.result c.args.form c.args.part c.args.formula c.in-Ok-start.reading (bytes_at disk c.args.name.now) c.in-Ok-start.ensures.started t)

pub returns-clause-says : goal.returns-clause-says
returns-clause-says g c =
    if_some (g.F.Files.held c.args.files.now) (λ disk.
    says-lost c.args.form (share_of c.args.part) c.args.formula (bytes_at disk c.args.name.now) c.in-Err.verdict c.in-Err.ensures.lost)
