use Rattle.std.proofs.Common.{All}
use Rattle.q_kernel.specs.Prelude.{slots}
use Rattle.q_reduce.proofs.RegionSeparation.{IsVerified}
use Rattle.q_reduce.proofs.regions.Regions.is_right.Given as goal

abbrev pub invariant-loop-id : goal.invariant-loop-id
invariant-loop-id l = All (λ c. IsVerified l.kernel.prefix (slots l.kernel) l.self l.w c) l.yielded
