use Rattle.q_kernel.specs.Prelude.{slots}
use Rattle.q_subsume.proofs.PairTests.{subsumed-told}
use Rattle.q_subsume.proofs.subsumed.fits.Goals as goal

pub returns-then-are_two : goal.returns-then-are_two
returns-then-are_two c B =
    let k = c.args.kernel.now in
    subsumed-told B k.prefix (slots k) c.args.c c.args.d c.clause_of.result.now c.clause_of-then-are_two.result.now c.is_within.result (c.are_two.ensures.0 c.if-are_two.true) c.clause_of.ensures.clause c.clause_of-then-are_two.ensures.clause c.is_within.ensures
