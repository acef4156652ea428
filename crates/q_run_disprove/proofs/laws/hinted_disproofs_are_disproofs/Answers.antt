use Rattle.q_command.specs.Parts.{share_of}
use Rattle.q_run_disprove.proofs.SharedDisproving.{hinted-disproved, hinted-parts}
use Rattle.q_run_disprove.proofs.laws.hinted_disproofs_are_disproofs.Goals as goal

pub returns : goal.returns
returns c = record { steps = hinted-disproved; parts = λ p m n binary disk h. hinted-parts (share_of p) m n binary disk h }
