use Rattle.q_qrp.proofs.PieceReads.{finish-reads, finish-refuses}
use Rattle.q_qrp.proofs.reader.TraceReader.finish.Goals as goal

pub returns-clause-proof : goal.returns-clause-proof
returns-clause-proof c = finish-reads c.proof.result c.args.self c.proof.ensures.exact

pub returns-clause-refused : goal.returns-clause-refused
returns-clause-refused c = finish-refuses c.proof.result c.args.self c.proof.ensures.exact
