use Rattle.std.proofs.Common.{◌≡◌, length, true, false}
use Rattle.std.specs.Prelude.{nat_le}
use Rattle.q_arena.specs.Prelude.{Has, list_at}
use Rattle.q_prefix.specs.Order.{rank_of}
use Rattle.q_prefix.specs.Blocks.{ahead, block_from}
use Rattle.q_prefix.proofs.blocks.is_smaller.Given as goal

abbrev pub invariant-loop-b : goal.invariant-loop-b
invariant-loop-b l = record {
  before : Has (list_at l.order 0) l.before;
  after : Has (list_at l.order 0) l.after;
  same : nat_le (length (block_from (rank_of l.marks.items) l.before (ahead false (list_at l.order 0)))) (length (block_from (rank_of l.marks.items) l.after (ahead true (list_at l.order 0))))
      ≡ nat_le (length (block_from (rank_of l.marks.items) l.fn.x (ahead false (list_at l.order 0)))) (length (block_from (rank_of l.marks.items) l.fn.y (ahead true (list_at l.order 0))));
}

abbrev pub decreases-loop-b : goal.decreases-loop-b
decreases-loop-b l = length (block_from (rank_of l.marks.items) l.after (ahead true (list_at l.order 0)))
