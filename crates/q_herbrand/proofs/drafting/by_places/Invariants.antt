use Rattle.std.proofs.Common.{◌≡◌, take, length}
use Rattle.q_herbrand.specs.Drafted.{AreByPlaces}
use Rattle.q_herbrand.proofs.drafting.by_places.Given as goal

abbrev pub invariant-loop-gate : goal.invariant-loop-gate
invariant-loop-gate l = record {
  inputs : AreByPlaces (length l.fn.named.inputs) l.aig.inputs;
  gates : l.aig.gates ≡ take l.gate l.fn.named.gates;
}
