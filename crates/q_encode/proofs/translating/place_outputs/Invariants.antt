use Rattle.std.proofs.Common.{◌≤◌, length, drop, map}
use Rattle.q_aig.specs.Prelude.{output_of}
use Rattle.q_encode.specs.Translations.{AreBy}
use Rattle.q_encode.proofs.translating.place_outputs.Given as goal

abbrev pub invariant-loop-at : goal.invariant-loop-at
invariant-loop-at l = record {
  bound : l.at ≤ length l.outputs;
  by : AreBy l.top l.aig.inputs (map output_of (drop l.at l.outputs)) l.circuit_lits;
}

abbrev pub decreases-loop-at : goal.decreases-loop-at
decreases-loop-at l = l.at
