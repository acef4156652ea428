use Rattle.std.proofs.Common.{◌≡◌, false, length}
use Rattle.q_logic.specs.Prelude.{Matrix, Prefix, Closed, is_bound}
use Rattle.q_judge.specs.Regions.{AreRegionsOf}
use Rattle.q_judge.proofs.recent.RecentRegions.inherit.Given as goal

abbrev pub invariant-loop-at : goal.invariant-loop-at
invariant-loop-at l =
    (length l.self-inside.recent.items ≡ l.at-end)
    × ((P : Prefix) (X : Matrix) → is_bound P l.v ≡ false → Closed P X → AreRegionsOf P X l.fn.self → AreRegionsOf P X l.self-inside.recent.items)
