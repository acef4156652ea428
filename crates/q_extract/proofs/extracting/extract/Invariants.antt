use Rattle.std.proofs.Common.{◌≡◌, length}
use Rattle.q_extract.specs.Merges.{AreNodes, merge_circuits}
use Rattle.q_extract.specs.Rows.{guards_in, drops_in}
use Rattle.q_extract.specs.Built.{IsNoneHeld}
use Rattle.q_extract.proofs.Entered.{IsBase, IsBuilt}
use Rattle.q_extract.proofs.extracting.extract.Given as goal

abbrev pub invariant-loop-i : goal.invariant-loop-i
invariant-loop-i l = record {
  same : l.tables.inputs ≡ l.initial.tables.inputs;
  none : IsNoneHeld (length (guards_in l.drops)) l.initial.held.items;
  base : IsBase l.initial.aig l.initial.tables.inputs.items l.prefix (length l.drops.merges.items);
  nodes : AreNodes l.initial.aig (merge_circuits l.drops.merges.items) l.nodes.items;
  built : IsBuilt l.prefix (guards_in l.drops) (drops_in l.drops) l.i l.initial.aig l.aig l.initial.tables.inputs.items l.tables.circuits.items l.initial.held.items l.held.items;
}
