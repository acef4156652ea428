use Rattle.q_command.proofs.PartsVerify.{parts-verify, verified-parts}
use Rattle.q_shares.proofs.SharedRuns.{all-dealt}
use Rattle.q_command.proofs.laws.verified_parts_verify.Goals as goal

pub returns-clause-whole : goal.returns-clause-whole
returns-clause-whole c = λ n ms i o l h a. parts-verify _ ms i o l (all-dealt 1000 n h) a

pub returns-clause-parts : goal.returns-clause-parts
returns-clause-parts c = λ p m i o l v. verified-parts _ m i o l v
