use Rattle.std.proofs.Common.{◌≡◌, ◌<◌, ◌++◌, ℕ, Some, slice_get}
use Rattle.q_logic.specs.Prelude.{Clause, Implied}
use Rattle.q_prop.specs.Slots.{filled, without}
use Rattle.q_prop.proofs.store.Store.each_implied.Given as goal

abbrev pub invariant-loop-i : goal.invariant-loop-i
invariant-loop-i l =
    (l.self ≡ l.fn.self)
    × ((j : ℕ) (t : Clause) → j < l.i → slice_get l.tails j ≡ Some t → Implied (filled (without l.fn.self l.skip)) (l.lits ++ t))
