use Rattle.q_text.proofs.TokenLaw.{from_start}
use Rattle.q_text.proofs.tokens.Tokens.new.Goals as goal

pub returns-clause-tokens : goal.returns-clause-tokens
returns-clause-tokens c = from_start
