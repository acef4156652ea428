use Rattle.std.proofs.Common.{◌≡◌, length, take}
use Rattle.q_extract.specs.Merges.{IsMerging}
use Rattle.q_extract.proofs.merging.merge_nodes.Given as goal

abbrev pub invariant-loop-merge : goal.invariant-loop-merge
invariant-loop-merge l = record {
  merging : IsMerging l.initial.aig l.aig l.tables.inputs.items l.tables.circuits.items (take l.merge-index l.merges) l.nodes.items;
  count : length l.nodes.items ≡ l.merge-index;
}
