use Rattle.q_dimacs.proofs.GrammarIsRead as law
use Rattle.q_dimacs.proofs.ReadIsGrammar as back
use Rattle.q_dimacs.proofs.laws.grammar_is_read.Goals as goal

pub returns : goal.returns
returns c m bytes f = (law.grammar_is_read m bytes f, back.read_is_grammar m bytes f)
