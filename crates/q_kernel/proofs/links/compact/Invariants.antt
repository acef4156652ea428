use Rattle.std.proofs.Common.{◌≡◌, ◌≤◌}
use Rattle.std.specs.List.{sum_by}
use Rattle.q_occ.specs.Places.{KeepsRoom}
use Rattle.q_kernel.specs.Linking.{AreLinked}
use Rattle.q_kernel.proofs.links.compact.Given as goal

abbrev pub invariant-loop-id : goal.invariant-loop-id
invariant-loop-id l = record {
  linked : AreLinked l.occ l.arena;
  clauses : l.arena.clauses ≡ l.fn.arena.clauses;
  room : l.arena.room ≡ l.fn.arena.room;
  words : l.fn.arena.spare_words ≤ l.arena.spare_words;
  ids : l.arena.spare_ids ≡ l.fn.arena.spare_ids;
  kept : KeepsRoom l.fn.occ l.occ;
}

abbrev pub decreases-loop-id : goal.decreases-loop-id
decreases-loop-id l = sum_by (λ x. x) l.arena.starts
