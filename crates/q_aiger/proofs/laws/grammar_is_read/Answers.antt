use Rattle.q_aiger.proofs.AigerGrammar.{grammar-read, read-grammar}
use Rattle.q_aiger.proofs.laws.grammar_is_read.Goals as goal

pub returns : goal.returns
returns c = λ bytes circuits. (grammar-read bytes circuits, read-grammar bytes circuits)
