use Rattle.q_extract.proofs.Merged.{chosen-is}
use Rattle.q_extract.proofs.merging.choose.Goals as goal

pub returns : goal.returns
returns c = chosen-is c.args.aig.now _ _ _ c.args.choice _ c.args.first c.args.second _ _ _ c.requires.choice c.requires.first c.requires.second c.negate.ensures c.in_ok-with.ensures.conjunction c.in_ok-without.ensures.conjunction c.in_ok-lit.ensures.disjunction
