use Rattle.q_logic.proofs.AllDecided.{decided}
use Rattle.q_logic.proofs.LeastClosure.{expansion_vars-least}
use Rattle.q_logic.proofs.rules.plain_programs_decide.Goals as goal

pub returns : goal.returns
returns c = record { targets = decided; copies = expansion_vars-least }
