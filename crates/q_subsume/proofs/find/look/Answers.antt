use Rattle.std.proofs.Common.{arith}
use Rattle.q_subsume.proofs.find.look.Goals as goal

pub returns-clause-some : goal.returns-clause-some
returns-clause-some c t e = let r = c.between.ensures.some t e in (r.0, omega arith, r.1)

pub returns-clause-none : goal.returns-clause-none
returns-clause-none c e l = c.between.ensures.none e
