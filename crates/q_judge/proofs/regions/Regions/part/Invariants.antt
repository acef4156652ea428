use Rattle.std.proofs.Common.{ℕ, take}
use Rattle.q_logic.specs.Prelude.{Clause, IsIn}
use Rattle.q_prop.specs.Slots.{Holds}
use Rattle.q_judge.specs.Regions.{HasNoneIn}
use Rattle.q_judge.proofs.regions.Regions.part.Given as goal

abbrev pub invariant-loop-at : goal.invariant-loop-at
invariant-loop-at l =
    (n : ℕ) → IsIn n (take l.at-index l.at-items) → (D : Clause) → Holds l.view.slots n D → HasNoneIn l.view.prefix l.m.var l.self.labels l.region D
