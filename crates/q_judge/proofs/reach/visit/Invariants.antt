use Rattle.q_judge.proofs.ReachWalks.{IsFollowing}
use Rattle.q_judge.proofs.reach.visit.Given as goal

abbrev pub invariant-loop-i : goal.invariant-loop-i
invariant-loop-i l = IsFollowing l.view.prefix l.u l.view.slots l.slots l.i l.fn.trail l.trail
