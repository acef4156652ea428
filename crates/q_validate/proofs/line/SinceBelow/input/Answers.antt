use Rattle.q_validate.proofs.LineValues.{input-follows}
use Rattle.q_validate.proofs.line.SinceBelow.input.Goals as goal

pub returns : goal.returns
returns c = input-follows c.args.place
