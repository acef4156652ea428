use Rattle.std.proofs.Common.{◌≡◌, ◌∷◌, length}
use Rattle.q_logic.specs.Prelude.{Matrix}
use Rattle.q_judge.specs.Walks.{IsEnclosed, AreEnclosed}
use Rattle.q_judge.proofs.RegionSeparation.{AreHalf}
use Rattle.q_judge.proofs.kept_walks.RecentWalks.take.Given as goal

abbrev pub invariant-loop-at : goal.invariant-loop-at
invariant-loop-at l =
    (length l.self-inside.walks.items ≡ l.at-end)
    × ((X : Matrix) → AreEnclosed l.scope X l.fn.self → AreHalf (IsEnclosed l.scope X) (IsEnclosed l.scope (l.clause ∷ X)) l.at l.self-inside.walks.items)
