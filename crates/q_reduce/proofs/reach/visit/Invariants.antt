use Rattle.q_logic.specs.Prelude.{negation, IsIn, live}
use Rattle.q_kernel.specs.Prelude.{slots}
use Rattle.q_reduce.proofs.ReachWalks.{IsFollowing}
use Rattle.q_reduce.proofs.reach.visit.Given as goal

abbrev pub invariant-loop-d : goal.invariant-loop-d
invariant-loop-d l = IsFollowing l.kernel.prefix l.u (slots l.kernel) (λ E. IsIn E (live (slots l.kernel)) × IsIn (negation l.fn.lit) E) l.yielded l.fn.queue l.queue
