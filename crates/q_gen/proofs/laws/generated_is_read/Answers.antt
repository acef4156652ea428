use Rattle.q_gen.specs.Generated.{Generated}
use Rattle.q_gen.proofs.DrawnClauses.{generated-proper, generated-limits}
use Rattle.q_gen.proofs.laws.generated_is_read.Goals as goal

pub returns : goal.returns
returns c = λ seed size h. c.written_within_limits_is_read.ensures (Generated seed size) (generated-proper seed size h) (generated-limits seed size h)
