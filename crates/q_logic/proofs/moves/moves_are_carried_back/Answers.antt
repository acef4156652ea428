use Rattle.std.proofs.Common.{inr}
use Rattle.q_logic.proofs.Justified.{Run-justified}
use Rattle.q_logic.proofs.MovesBack.{run-agree}
use Rattle.q_logic.proofs.moves.moves_are_carried_back.Goals as goal

pub returns : goal.returns
returns c = λ F G ss us k d A n f r u l m h. run-agree F ss G us n k d A f (Run-justified F ss G r) u (inr (l, m)) h
