use Rattle.std.specs.List.{All}
use Rattle.q_equiv.specs.Targets.{MayStand}
use Rattle.q_equiv.proofs.proposing.halve.Given as goal

abbrev pub invariant-loop : goal.invariant-loop
invariant-loop l = All (MayStand l.kernel.prefix) l.targets.items
