use Rattle.q_dimacs.proofs.PieceReads.{finish-reads, finish-refuses}
use Rattle.q_dimacs.proofs.reader.Reader.finish.Goals as goal

pub returns-clause-formula : goal.returns-clause-formula
returns-clause-formula c = finish-reads c.formula.result c.args.self c.formula.ensures.exact

pub returns-clause-refused : goal.returns-clause-refused
returns-clause-refused c = finish-refuses c.formula.result c.args.self c.formula.ensures.exact
