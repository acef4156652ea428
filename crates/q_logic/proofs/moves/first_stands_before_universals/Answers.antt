use Rattle.q_logic.proofs.PrefixRounds.{first-none_before}
use Rattle.q_logic.proofs.moves.first_stands_before_universals.Goals as goal

pub returns : goal.returns
returns c = λ P x d e. first-none_before P x d e
