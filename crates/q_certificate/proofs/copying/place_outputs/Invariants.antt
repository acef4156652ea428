use Rattle.std.proofs.Common.{◌≤◌, length, drop}
use Rattle.q_certificate.specs.Copied.{ArePlaced}
use Rattle.q_certificate.proofs.copying.place_outputs.Given as goal

abbrev pub invariant-loop-i : goal.invariant-loop-i
invariant-loop-i l = record {
  bound : l.i ≤ length l.outputs;
  placed : ArePlaced l.old l.inputs.items l.row l.outputs (drop l.i l.outputs) l.circuits.items;
}

abbrev pub decreases-loop-i : goal.decreases-loop-i
decreases-loop-i l = l.i
