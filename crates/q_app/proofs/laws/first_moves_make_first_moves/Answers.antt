use Rattle.q_app.proofs.SameMoves.{first-moves}
use Rattle.q_app.proofs.laws.first_moves_make_first_moves.Goals as goal

pub returns : goal.returns
returns c = first-moves
