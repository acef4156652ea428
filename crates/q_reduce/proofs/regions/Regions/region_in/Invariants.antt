use Rattle.std.proofs.Common.{◌≡◌, true, take}
use Rattle.q_logic.specs.Prelude.{Literal, IsIn, inner_existential}
use Rattle.q_reduce.proofs.regions.Regions.region_in.Given as goal

abbrev pub invariant-loop-k : goal.invariant-loop-k
invariant-loop-k l = (k : Literal) → IsIn k (take l.k-index l.clause) → inner_existential l.kernel.prefix l.u k.var ≡ true → ⊥
