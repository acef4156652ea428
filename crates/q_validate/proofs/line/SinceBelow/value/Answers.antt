use Rattle.q_validate.proofs.LineValues.{value-follows}
use Rattle.q_validate.proofs.line.SinceBelow.value.Goals as goal

pub returns : goal.returns
returns c = value-follows c.args.value
