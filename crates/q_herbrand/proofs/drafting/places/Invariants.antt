use Rattle.std.proofs.Common.{◌≡◌, []}
use Rattle.q_herbrand.specs.Drafted.{AreByPlaces}
use Rattle.q_herbrand.proofs.drafting.places.Given as goal

abbrev pub invariant-loop-place : goal.invariant-loop-place
invariant-loop-place l = record {
  inputs : AreByPlaces l.place l.aig.inputs;
  gates : l.aig.gates ≡ [];
}
