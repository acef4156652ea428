use Rattle.std.proofs.Common.{◌≡◌, drop}
use Rattle.q_logic.specs.Prelude.{greatest, larger_of}
use Rattle.q_prefix.proofs.prefix.greatest_of.Given as goal

abbrev pub invariant-loop-bound : goal.invariant-loop-bound
invariant-loop-bound l = larger_of l.greatest (greatest (drop l.bound-index l.bounds)) ≡ greatest l.bounds
