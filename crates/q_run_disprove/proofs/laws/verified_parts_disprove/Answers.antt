use Rattle.q_shares.proofs.SharedRuns.{all-dealt}
use Rattle.q_command.specs.Parts.{share_of}
use Rattle.q_run_disprove.proofs.SharedDisproving.{parts-disprove, disproved-parts}
use Rattle.q_run_disprove.proofs.laws.verified_parts_disprove.Goals as goal

pub returns : goal.returns
returns c = record {
  whole = λ n ms f b disk h a. parts-disprove _ ms f b disk (all-dealt 1000 n h) a;
  parts = λ p m f b disk v. disproved-parts (share_of p) m f b disk v;
}
