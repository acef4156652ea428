use Rattle.q_certificate.proofs.CircuitParts.{or-is}
use Rattle.q_certificate.proofs.parts.or.Goals as goal

pub returns-clause-disjunction : goal.returns-clause-disjunction
returns-clause-disjunction c = or-is _ _ c.args.a c.args.b c.negate.result c.negate-2.result c.in_ok-neither.neither _ c.negate.ensures c.negate-2.ensures c.in_ok-neither.ensures.conjunction c.negate-3.ensures
