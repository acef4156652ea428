use Rattle.std.proofs.Common.{◌≡◌, take}
use Rattle.q_herbrand.specs.Disproved.{universals_in}
use Rattle.q_herbrand.proofs.zeros.universals_among.Given as goal

abbrev pub invariant-loop-at : goal.invariant-loop-at
invariant-loop-at l = l.made.items ≡ universals_in l.scope (take l.at l.prefix)
