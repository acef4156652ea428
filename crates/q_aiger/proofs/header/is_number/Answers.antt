use Rattle.q_aiger.proofs.Digits.{number-test}
use Rattle.q_aiger.proofs.header.is_number.Goals as goal

pub returns : goal.returns
returns c = number-test c.args.word.now c.number.result c.is_some.result c.number.ensures c.is_some.ensures
