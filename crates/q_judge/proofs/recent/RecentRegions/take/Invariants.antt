use Rattle.std.proofs.Common.{◌≡◌, ◌∷◌, length}
use Rattle.q_logic.specs.Prelude.{Matrix}
use Rattle.q_judge.specs.Regions.{AreRegions, AreRegionsOf}
use Rattle.q_judge.proofs.RegionSeparation.{AreHalf}
use Rattle.q_judge.proofs.recent.RecentRegions.take.Given as goal

abbrev pub invariant-loop-at : goal.invariant-loop-at
invariant-loop-at l =
    (length l.self-inside.recent.items ≡ l.at-end)
    × ((X : Matrix) → AreRegionsOf l.scope X l.fn.self → AreHalf (AreRegions l.scope X) (AreRegions l.scope (l.clause ∷ X)) l.at l.self-inside.recent.items)
