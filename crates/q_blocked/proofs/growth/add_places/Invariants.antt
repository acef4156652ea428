use Rattle.q_blocked.specs.Growths.{HasPlaces}
use Rattle.q_blocked.proofs.growth.add_places.Given as goal

abbrev pub invariant-loop-place : goal.invariant-loop-place
invariant-loop-place l = HasPlaces l.fn.places.items l.from l.place l.places.items
