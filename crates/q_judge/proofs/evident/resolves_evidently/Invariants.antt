use Rattle.std.proofs.Common.{ℕ, ◌++◌, take}
use Rattle.q_logic.specs.Prelude.{Clause, IsIn, outer, Implied}
use Rattle.q_prop.specs.Slots.{Holds, filled}
use Rattle.q_judge.proofs.evident.resolves_evidently.Given as goal

abbrev pub invariant-loop-at : goal.invariant-loop-at
invariant-loop-at l =
    (n : ℕ) → IsIn n (take l.at-index l.slots) → (D : Clause) → Holds l.view.slots n D →
    Implied (filled l.view.slots) (l.base ++ outer l.view.prefix l.m D)
