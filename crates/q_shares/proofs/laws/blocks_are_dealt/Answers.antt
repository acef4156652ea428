use Rattle.q_shares.proofs.SharedRuns.{all-dealt}
use Rattle.q_shares.proofs.laws.blocks_are_dealt.Goals as goal

pub returns : goal.returns
returns c = all-dealt
