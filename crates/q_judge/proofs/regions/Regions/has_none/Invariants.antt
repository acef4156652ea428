use Rattle.std.proofs.Common.{◌≡◌, true, take}
use Rattle.q_logic.specs.Prelude.{Literal, IsIn, inner_existential}
use Rattle.q_judge.specs.Regions.{region_of}
use Rattle.q_judge.proofs.regions.Regions.has_none.Given as goal

abbrev pub invariant-loop-k : goal.invariant-loop-k
invariant-loop-k l = (k : Literal) → IsIn k (take l.k-index l.clause) → inner_existential l.scope l.u k.var ≡ true → region_of l.self.labels k.var ≡ l.region → ⊥
