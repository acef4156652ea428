use Rattle.std.proofs.Common.{◌<◌, ◌≤◌, ℕ}
use Rattle.q_gates.specs.Gates.{gates_view}
use Rattle.q_gates.specs.Uses.{Uses}
use Rattle.q_gates.specs.Levels.{level_of}
use Rattle.q_gates.proofs.levels.never_rise.Given as goal

abbrev pub invariant-loop-gate : goal.invariant-loop-gate
invariant-loop-gate l = (g h : ℕ) → g < l.gate → Uses (gates_view l.gates) g h → level_of l.levels h ≤ level_of l.levels g
