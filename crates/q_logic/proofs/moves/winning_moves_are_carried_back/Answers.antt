use Rattle.q_logic.proofs.Justified.{Run-justified}
use Rattle.q_logic.proofs.FirstMoves.{winning-back}
use Rattle.q_logic.proofs.moves.winning_moves_are_carried_back.Goals as goal

pub returns : goal.returns
returns c = λ F G ss us k A f g r u h w. winning-back F ss G us k A f g (Run-justified F ss G r) u h w
