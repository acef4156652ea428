use Rattle.std.proofs.Common.{vec_len}
use Rattle.q_gates.proofs.components.Search.close.Given as goal

abbrev pub decreases-loop-gate : goal.decreases-loop-gate
decreases-loop-gate l = vec_len l.self.open
