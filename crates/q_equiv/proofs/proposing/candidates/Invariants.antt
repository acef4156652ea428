use Rattle.std.specs.List.{All}
use Rattle.q_equiv.specs.Targets.{MayStand}
use Rattle.q_equiv.proofs.proposing.candidates.Given as goal

abbrev pub invariant-loop-number : goal.invariant-loop-number
invariant-loop-number l = All (MayStand l.kernel.prefix) l.targets.items
