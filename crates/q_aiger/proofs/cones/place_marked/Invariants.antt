use Rattle.q_aiger.specs.Cones.{ArePlaced}
use Rattle.q_aiger.proofs.cones.place_marked.Given as goal

abbrev pub invariant-loop-gate : goal.invariant-loop-gate
invariant-loop-gate l = ArePlaced l.marks.items l.gate l.kept.items l.places.items
