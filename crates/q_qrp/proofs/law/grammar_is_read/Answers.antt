use Rattle.q_qrp.proofs.GrammarIsRead.{grammar-read}
use Rattle.q_qrp.proofs.ReadIsGrammar.{read-grammar}
use Rattle.q_qrp.proofs.law.grammar_is_read.Goals as goal

pub returns : goal.returns
returns c = λ most bytes p. (grammar-read most bytes p, read-grammar most bytes p)
