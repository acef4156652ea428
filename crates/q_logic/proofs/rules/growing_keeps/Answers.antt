use Rattle.q_logic.proofs.CoverOrder.{ends-more, grows-more, any_order}
use Rattle.q_logic.proofs.rules.growing_keeps.Goals as goal

pub returns : goal.returns
returns c = record { end = ends-more; growth = grows-more; order = any_order }
