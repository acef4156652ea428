use Rattle.std.proofs.Common.{vec_len}
use Rattle.q_equiv.proofs.components.Components.close.Given as goal

abbrev pub decreases-loop-number : goal.decreases-loop-number
decreases-loop-number l = vec_len l.self.open
