use Rattle.q_aiger.proofs.GateOrders.{one-meaning}
use Rattle.q_aiger.proofs.laws.one_text_has_one_meaning.Goals as goal

pub returns : goal.returns
returns c = one-meaning
