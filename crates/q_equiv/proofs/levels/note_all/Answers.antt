use Rattle.q_kernel.proofs.ForLoops.{live-turn}
use Rattle.q_equiv.proofs.levels.note_all.Goals as goal

pub lits-clause-requires : goal.lits-clause-requires
lits-clause-requires c = live-turn _ _ c.ids-id-items.ensures.live c.into_iter-id-iterator.ensures.into_iter_gives c.loop-id.yielded_by c.in-Some.ensures.steps
