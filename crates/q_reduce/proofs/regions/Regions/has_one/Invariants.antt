use Rattle.std.proofs.Common.{◌≡◌, true, take}
use Rattle.q_logic.specs.Prelude.{Literal, IsIn, inner_existential}
use Rattle.q_reduce.specs.Regions.{region_of}
use Rattle.q_reduce.proofs.regions.Regions.has_one.Given as goal

abbrev pub invariant-loop-k : goal.invariant-loop-k
invariant-loop-k l = (k : Literal) → IsIn k (take l.k-index l.clause) → inner_existential l.kernel.prefix l.w k.var ≡ true → region_of l.self k.var ≡ l.region
