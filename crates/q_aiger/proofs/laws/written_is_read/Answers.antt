use Rattle.q_aiger.proofs.RoundTrip.{written-read}
use Rattle.q_aiger.proofs.laws.written_is_read.Goals as goal

pub returns : goal.returns
returns c = written-read
