use Rattle.q_kernel.proofs.ForLoops.{live-turn}
use Rattle.q_reduce.proofs.joining.join_all.Goals as goal

pub lits-requires : goal.lits-requires
lits-requires c = live-turn _ _ c.ids-id-items.ensures.live c.into_iter-id-iterator.ensures.into_iter_gives c.loop-id.yielded_by c.in-Some.ensures.steps
