use Rattle.std.proofs.Common.{◌≡◌, ◌≤◌, ◌-◌, ◌⊎◌, length}
use Rattle.q_arena.specs.Layout.{AreMore}
use Rattle.q_arena.proofs.slots.grow_ids.Given as goal

abbrev pub invariant-loop-slots : goal.invariant-loop-slots
invariant-loop-slots l = record {
  more : AreMore l.fn.slots.items l.slots.items l.fn.ids l.ids;
  exact : (length l.slots.items ≤ l.size) ⊎ (length l.slots.items ≡ length l.fn.slots.items);
}

abbrev pub decreases-loop-slots : goal.decreases-loop-slots
decreases-loop-slots l = l.size - length l.slots.items
