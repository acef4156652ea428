use Rattle.q_blocked.specs.Learned.{IsRightFor}
use Rattle.q_guides.proofs.covering.Covering.fill.Given as goal

abbrev pub invariant-loop-turn : goal.invariant-loop-turn
invariant-loop-turn g l = IsRightFor l.kernel l.self.search
