use Rattle.std.proofs.Common.{◌≡◌, take}
use Rattle.q_logic.specs.Prelude.{Literal, IsIn}
use Rattle.q_judge.specs.Regions.{region_of, IsCoarser}
use Rattle.q_judge.proofs.labels.Labels.merge.Given as goal

abbrev pub invariant-loop-k : goal.invariant-loop-k
invariant-loop-k l =
    ((k : Literal) → IsIn k (take l.k-index l.clause) → region_of l.self k.var ≡ 0) × IsCoarser l.fn.self l.self
