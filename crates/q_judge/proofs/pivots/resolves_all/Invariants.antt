use Rattle.std.proofs.Common.{◌≡◌, ◌<◌, ◌≤◌, ◌-◌, ℕ, Some, length, slice_get}
use Rattle.q_logic.specs.Prelude.{Clause, Implied}
use Rattle.q_prop.specs.Slots.{Holds, without, filled}
use Rattle.q_judge.specs.Pivots.{resolvent}
use Rattle.q_judge.proofs.pivots.resolves_all.Given as goal

abbrev pub invariant-loop-from : goal.invariant-loop-from
invariant-loop-from l =
    (l.store ≡ l.fn.store)
    × (1 ≤ l.size)
    × ((j n : ℕ) (D : Clause) → j < l.from → slice_get l.slots j ≡ Some n → Holds (without l.fn.store l.question.skip) n D → Implied (filled (without l.fn.store l.question.skip)) (resolvent l.scope l.question D))

abbrev pub decreases-loop-from : goal.decreases-loop-from
decreases-loop-from l = length l.slots - l.from
