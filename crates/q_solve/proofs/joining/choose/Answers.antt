use Rattle.q_solve.proofs.JoinedCircuits.{chosen-made}
use Rattle.q_solve.proofs.joining.choose.Goals as goal

pub returns : goal.returns
returns c = chosen-made c.args.aig.now _ _ _ c.args.u _ c.args.second c.args.first _ _ _ c.requires.u c.requires.second c.requires.first c.negate.ensures c.in_ok-with.ensures.conjunction c.in_ok-without.ensures.conjunction c.in_ok-lit.ensures.disjunction
