use Rattle.std.proofs.Common.{◌≡◌, ◌<◌, ◌++◌, ℕ, Some}
use Rattle.q_logic.specs.Prelude.{Clause, Chained, slot, outer}
use Rattle.q_logic.specs.ProofParts.{group_at}
use Rattle.q_check.specs.Numbers.{left_out}
use Rattle.q_check.proofs.hint_tests.resolved.Given as goal

abbrev pub invariant-loop-at : goal.invariant-loop-at
invariant-loop-at l =
    (l.book ≡ l.fn.book)
    × ((i : ℕ) → i < l.at → (D : Clause) → slot (left_out l.sides.skip l.fn.book.slots) (group_at l.proof.groups i).target ≡ Some D →
    Chained (left_out l.sides.skip l.fn.book.slots) (l.sides.base.now ++ outer l.fn.book.prefix l.sides.m D) (group_at l.proof.groups i).hints)
