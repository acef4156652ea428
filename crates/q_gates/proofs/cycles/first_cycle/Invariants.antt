use Rattle.std.proofs.Common.{◌<◌, ℕ}
use Rattle.q_gates.specs.Uses.{DependsOn}
use Rattle.q_gates.specs.Gates.{gates_view}
use Rattle.q_gates.proofs.cycles.first_cycle.Given as goal

abbrev pub invariant-loop-g : goal.invariant-loop-g
invariant-loop-g l = (h : ℕ) → h < l.g → DependsOn (gates_view l.parts) h h → ⊥
