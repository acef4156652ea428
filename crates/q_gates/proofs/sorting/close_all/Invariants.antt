use Rattle.std.proofs.Common.{◌≡◌, ℕ, true, ◌+◌, ◌*◌, length}
use Rattle.q_gates.specs.Sorting.{is_marked, unmarked_count, IsWalk}
use Rattle.q_gates.specs.Gates.{gates_view}
use Rattle.q_gates.proofs.sorting.close_all.Given as goal

abbrev pub invariant-loop-stack : goal.invariant-loop-stack
invariant-loop-stack l = record {
  walk : IsWalk (gates_view l.parts) l.opened l.closed l.stack.items l.order.items;
  kept : (g : ℕ) → is_marked l.initial.opened g ≡ true → is_marked l.opened g ≡ true;
}

abbrev pub decreases-loop-stack : goal.decreases-loop-stack
decreases-loop-stack l = 2 * unmarked_count l.opened + length l.stack.items
