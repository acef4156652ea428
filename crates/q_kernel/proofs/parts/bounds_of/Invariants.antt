use Rattle.std.proofs.Common.{◌≡◌, ◌-◌, ◌++◌, length, slice_get}
use Rattle.q_logic.specs.Prelude.{Prefix}
use Rattle.q_kernel.proofs.parts.bounds_of.Given as goal

abbrev pub invariant-loop-at : goal.invariant-loop-at
invariant-loop-at l = (rest : Prefix) × (l.bounds.items ++ rest ≡ l.prefix.bounds) × (l.at ≡ slice_get rest 0)

abbrev pub decreases-loop-at : goal.decreases-loop-at
decreases-loop-at l = length l.prefix.bounds - length l.bounds.items
