use Rattle.q_kernel.specs.Prelude.{slots}
use Rattle.q_blocked.specs.Units.{HasUnitsAmong}
use Rattle.q_blocked.proofs.units.find_units.Given as goal

abbrev pub invariant-loop-id : goal.invariant-loop-id
invariant-loop-id l = HasUnitsAmong (slots l.kernel) l.yielded l.units.items
