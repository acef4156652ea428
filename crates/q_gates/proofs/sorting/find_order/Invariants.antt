use Rattle.std.proofs.Common.{◌≡◌, ◌<◌, ℕ, true, []}
use Rattle.q_gates.specs.Sorting.{is_marked, IsWalk}
use Rattle.q_gates.specs.Gates.{gates_view}
use Rattle.q_gates.proofs.sorting.find_order.Given as goal

abbrev pub invariant-loop-root : goal.invariant-loop-root
invariant-loop-root l = record {
  walk : IsWalk (gates_view l.parts) l.opened.items l.closed.items l.stack.items l.order.items;
  empty : l.stack.items ≡ [];
  opened : (g : ℕ) → g < l.root → is_marked l.opened.items g ≡ true;
}
