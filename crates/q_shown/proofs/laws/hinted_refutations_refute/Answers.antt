use Rattle.q_shown.proofs.HintedRefuting.{hinted-refutes, hinted-false, refutes-hinted}
use Rattle.q_shown.proofs.laws.hinted_refutations_refute.Goals as goal

pub returns : goal.returns
returns c = record { stripped = hinted-refutes; wrong = hinted-false; shown = refutes-hinted }
