use Rattle.std.proofs.Common.{false, refl}
use Rattle.std.proofs.lemmas.Bool.{both_ways}
use Rattle.q_gates.specs.Gates.{gates_view}
use Rattle.q_gates.proofs.LowerGates.{falls-free}
use Rattle.q_gates.proofs.cycles.is_cyclic.Goals as goal

pub returns-then-falls : goal.returns-then-falls
returns-then-falls c = (
  λ t. absurd (both_ways false refl t),
  λ d. absurd (falls-free (gates_view c.args.parts.now) c.args.levels.now c.args.g c.requires.levels (c.falls.ensures c.if-falls.true) d),
)
