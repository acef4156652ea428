use Rattle.std.proofs.Common.{◌∙◌}
use Rattle.q_herbrand.proofs.InputPlaces.{places-more}
use Rattle.q_herbrand.proofs.drafting.places.Goals as goal

pub loop-place-preserved : goal.loop-place-preserved
loop-place-preserved c = record {
  inputs = places-more c.loop-place.place c.in-Ok.name c.loop-place.aig.inputs c.input.new.self.inputs c.in-Ok.ensures.1
      c.in_ok-input.ensures.inputs c.loop-place.invariant.inputs;
  gates = c.in_ok-input.ensures.gates ∙ c.loop-place.invariant.gates;
}
