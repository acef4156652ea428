use Rattle.q_dimacs.proofs.RoundTrip as law
use Rattle.q_dimacs.proofs.laws.written_is_read.Goals as goal

pub returns : goal.returns
returns c = law.written_is_read
