use Rattle.std.proofs.Common.{◌≡◌, ◌-◌, length, drop}
use Rattle.q_arena.specs.Prelude.{list_at}
use Rattle.q_prefix.specs.Order.{IsPrefix, IsFirstRank, bounds_of, rank_of}
use Rattle.q_prefix.proofs.blocks.fill.Given as goal

abbrev pub invariant-loop-done : goal.invariant-loop-done
invariant-loop-done l = record {
  prefix : IsPrefix l.order l.marks.items;
  bounds : bounds_of l.marks.items (list_at l.order 0) ≡ drop (length l.bounds - l.done) l.bounds;
  len : length l.marks.items ≡ length l.fn.marks.items;
  rank : IsFirstRank (rank_of l.marks.items) l.rank (length l.bounds - l.done) (drop (length l.bounds - l.done) l.bounds);
}
