use Rattle.q_kernel.specs.Prelude.{slots}
use Rattle.q_subsume.proofs.PairTests.{strengthen-told}
use Rattle.q_subsume.proofs.strengthen.fits.Goals as goal

pub returns-then-are_two : goal.returns-then-are_two
returns-then-are_two c B =
    let k = c.args.kernel.now in
    strengthen-told B k.prefix (slots k) c.args.c c.args.d c.args.l c.clause_of.result.now c.clause_of-then-are_two.result.now c.strengthens.result (c.are_two.ensures.0 c.if-are_two.true) c.clause_of.ensures.clause c.clause_of-then-are_two.ensures.clause c.strengthens.ensures
