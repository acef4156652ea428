use Rattle.std.specs.List.{All}
use Rattle.q_equiv.specs.Targets.{MayStand}
use Rattle.q_equiv.proofs.proposing.pair_with.Given as goal

abbrev pub invariant-loop-gone : goal.invariant-loop-gone
invariant-loop-gone l = All (MayStand l.kernel.prefix) l.targets.items
