use Rattle.q_rebuild.proofs.KeptMoves.{keeps-moves}
use Rattle.q_rebuild.proofs.whole.keeping.Goals as goal

pub returns : goal.returns
returns c = λ ss us gave made run undos lawful rebuilt.
    keeps-moves c.args.input.now c.args.output.now ss us gave made c.prefix.ensures.proper.formula c.prefix-2.ensures.proper.formula run undos lawful rebuilt
