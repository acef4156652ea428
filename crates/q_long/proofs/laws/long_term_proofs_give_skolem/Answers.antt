use Rattle.q_long.proofs.Refuting.{long-skolem, long-true}
use Rattle.q_long.proofs.laws.long_term_proofs_give_skolem.Goals as goal

pub returns : goal.returns
returns c = record { skolem = long-skolem; truth = long-true }
