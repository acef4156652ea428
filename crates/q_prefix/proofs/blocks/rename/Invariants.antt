use Rattle.std.proofs.Common.{◌≡◌, ℕ, length}
use Rattle.q_arena.specs.Prelude.{list_at}
use Rattle.q_prefix.specs.Order.{mark_at, rank_of}
use Rattle.q_prefix.specs.Blocks.{ahead}
use Rattle.q_prefix.proofs.NewRanks.{block_of, IsRenaming}
use Rattle.q_prefix.proofs.blocks.rename.Given as goal

abbrev pub invariant-loop-at : goal.invariant-loop-at
invariant-loop-at l = record {
  len : length l.marks.items ≡ length l.fn.marks.items;
  quant : (v : ℕ) → (mark_at l.marks.items v).quant ≡ (mark_at l.fn.marks.items v).quant;
  bound : (v : ℕ) → (mark_at l.marks.items v).bound ≡ (mark_at l.fn.marks.items v).bound;
  renaming : IsRenaming (ahead l.forward (list_at l.order 0)) (rank_of l.fn.marks.items) (rank_of l.marks.items) l.fn.start l.at l.to;
}

abbrev pub decreases-loop-at : goal.decreases-loop-at
decreases-loop-at l = length (block_of (rank_of l.marks.items) l.at (ahead l.forward (list_at l.order 0)))
