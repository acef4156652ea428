use Rattle.q_shares.specs.Shares.{first_dealt}
use Rattle.q_shares.proofs.SharedRuns.{all-dealt}
use Rattle.q_run_annotate.proofs.PartsAnnotate.{parts-annotate}
use Rattle.q_run_annotate.proofs.law.parts_annotate_what_annotate_does.Goals as goal

pub returns : goal.returns
returns c = λ n i o l h. parts-annotate (first_dealt 1000 n n) (all-dealt 1000 n h) i o l
