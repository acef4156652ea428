use Rattle.q_logic.proofs.SettledResults.{settled-nothing, settled-falsity}
use Rattle.q_logic.proofs.rules.settled_at_once.Goals as goal

pub returns : goal.returns
returns c = record { nothing = settled-nothing; falsity = settled-falsity }
