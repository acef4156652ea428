use Rattle.std.proofs.Common.{refl}
use Rattle.q_run_refute.proofs.refute.reverse.Goals as goal

pub reversals_of-requires : goal.reversals_of-requires
reversals_of-requires c = let r = c.requires refl in rw c.deref.ensures.value (r.last, r.steps)
