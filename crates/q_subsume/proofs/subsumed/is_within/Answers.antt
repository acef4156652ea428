use Rattle.q_subsume.proofs.PairTests.{within-told}
use Rattle.q_subsume.proofs.subsumed.is_within.Goals as goal

pub returns : goal.returns
returns c = within-told c.args.c.now c.args.d.now c.first_missing.result c.is_none.result c.is_none.ensures c.first_missing.ensures.some c.first_missing.ensures.none
