use Rattle.q_dimacs.proofs.TextLimits.{within-is_read}
use Rattle.q_dimacs.proofs.laws.written_within_limits_is_read.Goals as goal

pub returns : goal.returns
returns c = within-is_read
