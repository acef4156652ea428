use Rattle.q_logic.proofs.TargetRuns.{target-falls}
use Rattle.q_logic.proofs.rules.targets_lower.Goals as goal

pub returns : goal.returns
returns c B P N t h = target-falls B P N t h.fits
