use Rattle.std.proofs.Common.{◌≡◌, take}
use Rattle.q_blocked.proofs.growth.copy.Given as goal

abbrev pub invariant-loop-place : goal.invariant-loop-place
invariant-loop-place l = l.lits.items ≡ take l.place l.set
