use Rattle.q_logic.proofs.ProofParts.{valid-hinted}
use Rattle.q_logic.proofs.hints.valid_steps_have_hints.Goals as goal

pub returns : goal.returns
returns c = valid-hinted
