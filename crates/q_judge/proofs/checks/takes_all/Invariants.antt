use Rattle.std.proofs.Common.{◌≡◌, ◌+◌, take, length}
use Rattle.q_logic.specs.Prelude.{Clause, copies}
use Rattle.q_prop.specs.Slots.{filled}
use Rattle.q_judge.proofs.checks.takes_all.Given as goal

abbrev pub invariant-loop-at : goal.invariant-loop-at
invariant-loop-at l =
    ((D : Clause) → copies D (filled l.fn.store) ≡ copies D (filled l.store) + copies D (take l.at l.output.matrix))
    × (length (filled l.fn.store) ≡ length (filled l.store) + l.at)
