use Rattle.std.proofs.Common.{◌<◌, ℕ}
use Rattle.q_logic.specs.Prelude.{Clause}
use Rattle.q_prop.specs.Slots.{Holds}
use Rattle.q_judge.specs.Regions.{IsRegional}
use Rattle.q_judge.proofs.regions.Regions.are_right.Given as goal

abbrev pub invariant-loop-at : goal.invariant-loop-at
invariant-loop-at l = (n : ℕ) (D : Clause) → n < l.at → Holds l.view.slots n D → IsRegional l.view.prefix l.self D
