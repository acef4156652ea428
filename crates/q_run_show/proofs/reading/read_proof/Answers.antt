use Rattle.std.proofs.lemmas.Option.{IfSome_then}
use Rattle.q_io.specs.Files.{bytes_at}
use Rattle.q_command.proofs.FilePieces.{if_some}
use Rattle.q_command.specs.Parts.{share_of}
use Rattle.q_run_disprove.specs.Disproofs.{proof_of}
use Rattle.q_run_show.proofs.ProofReading.{told-whole}
use Rattle.q_run_show.proofs.ShownEnds.{at-once, once-no_fault}
use Rattle.q_run_show.proofs.reading.read_proof.Goals as goal

pub returns-in-Ok-clause-says : goal.returns-in-Ok-clause-says
returns-in-Ok-clause-says g c =
    IfSome_then (g.F.Files.held c.args.files.now) c.read_all.ensures.tells
    (λ disk t. told-whole c.read_all.result c.args.binary c.args.part c.args.formula.now c.in-Ok.reading (bytes_at disk c.args.name.now) c.in-Ok.ensures.started t)

pub returns-in-Err-clause-says : goal.returns-in-Err-clause-says
returns-in-Err-clause-says g c =
    if_some (g.F.Files.held c.args.files.now) (λ disk.
    at-once (share_of c.args.part) c.args.formula.now c.in-Err.ending (proof_of c.args.binary (bytes_at disk c.args.name.now)) c.in-Err.ensures.lost)

pub returns-in-Err-clause-fault : goal.returns-in-Err-clause-fault
returns-in-Err-clause-fault g c = λ e. absurd (once-no_fault (share_of c.args.part) c.args.formula.now c.in-Err.ending c.in-Err.ensures.lost e)
