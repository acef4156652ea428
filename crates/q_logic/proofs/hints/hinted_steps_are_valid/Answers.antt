use Rattle.q_logic.proofs.HintedRuns.{hinted-valid, hinted-after}
use Rattle.q_logic.proofs.hints.hinted_steps_are_valid.Goals as goal

pub returns : goal.returns
returns c = record { valid = hinted-valid; after = hinted-after }
