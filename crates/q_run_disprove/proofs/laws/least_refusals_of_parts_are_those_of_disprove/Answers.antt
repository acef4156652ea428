use Rattle.q_shares.proofs.SharedRuns.{all-dealt}
use Rattle.q_command.specs.Parts.{share_of}
use Rattle.q_run_disprove.proofs.SharedDisproving.{line-told, line-least, end-of-all}
use Rattle.q_run_disprove.proofs.laws.least_refusals_of_parts_are_those_of_disprove.Goals as goal

pub returns : goal.returns
returns c = record {
  told = λ n k x f b disk h v. line-told _ k x f b disk (all-dealt 1000 n h) v;
  none_before = λ p k x own other f b disk v w. line-least (share_of p) k x own other f b disk v w;
  ends = λ p f b disk v. end-of-all (share_of p) f b disk v;
}
