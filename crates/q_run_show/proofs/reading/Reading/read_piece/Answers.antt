use Rattle.std.proofs.Common.{take}
use Rattle.std.proofs.lemmas.Option.{IfSome_then}
use Rattle.q_io.specs.Files.{bytes_at}
use Rattle.q_run_show.proofs.ProofReading.{tells_file}
use Rattle.q_run_show.proofs.reading.Reading.read_piece.Goals as goal

pub returns-in-Err-clause-tells : goal.returns-in-Err-clause-tells
returns-in-Err-clause-tells g c =
    IfSome_then (g.F.Files.held c.args.files.now) c.in-Ok.ensures.bytes
    (λ disk r. tells_file c.args.self.now (bytes_at disk c.args.name.now) c.args.at c.in-Ok.count (take c.in-Ok.count c.read.new.buf) c.in-Err.ending r.copied c.in-Err.ensures.tells)
