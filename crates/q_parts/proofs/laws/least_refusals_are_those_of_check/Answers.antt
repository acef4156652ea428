use Rattle.q_shares.proofs.SharedRuns.{all-dealt}
use Rattle.q_command.specs.Parts.{share_of}
use Rattle.q_parts.proofs.LeastRefusals.{line-told, line-least, end-told}
use Rattle.q_parts.proofs.laws.least_refusals_are_those_of_check.Goals as goal

pub returns : goal.returns
returns c = record {
  told = λ n m k i o l h. line-told _ m k i o l (all-dealt 1000 n h);
  none_before = λ p n k m d i o l. line-least (share_of p) n k m d i o l;
  ends = λ p k i o l. end-told (share_of p) k i o l;
}
