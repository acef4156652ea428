use Rattle.q_logic.proofs.FirstValues.{wins-game}
use Rattle.q_logic.proofs.moves.first_values_begin_the_game.Goals as goal

pub returns : goal.returns
returns c = λ F a f. wins-game F a f
