use Rattle.q_certificate.specs.Tabled.{ArePlacesUpto}
use Rattle.q_certificate.proofs.by_variable.places_of.Given as goal

abbrev pub invariant-loop-i : goal.invariant-loop-i
invariant-loop-i l = ArePlacesUpto l.names l.i l.table.items
