use Rattle.std.proofs.Common.{◌≡◌, ◌<◌, ◌++◌, ℕ, Some, slice_get}
use Rattle.q_logic.specs.Prelude.{Clause, Implied}
use Rattle.q_prop.specs.Slots.{filled, without}
use Rattle.q_prop.specs.Watched.{IsMoved}
use Rattle.q_prop.proofs.level.each_above.Given as goal

abbrev pub invariant-loop-i : goal.invariant-loop-i
invariant-loop-i l =
    (l.trail ≡ l.fn.trail)
    × IsMoved l.fn.trail l.fn.watched l.watched
    × ((j : ℕ) (t : Clause) → j < l.i → slice_get l.tails j ≡ Some t → Implied (filled (without l.fn.watched.clauses.slots l.level.skip)) (l.level.lits.now ++ t))
