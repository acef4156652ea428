use Rattle.std.proofs.Common.{◌≡◌, take, map}
use Rattle.q_check.proofs.hint_tests.are_targets.Given as goal

abbrev pub invariant-loop-at : goal.invariant-loop-at
invariant-loop-at l = take l.at (map (λ g. g.target) l.proof.groups) ≡ take l.at l.targets
