use Rattle.std.proofs.Common.{◌≡◌, ◌++◌, drop}
use Rattle.q_miter.specs.Miters.{gate_clauses, in_order}
use Rattle.q_encode.proofs.gates.put_gates.Given as goal

abbrev pub invariant-loop-gate : goal.invariant-loop-gate
invariant-loop-gate l =
    l.rows ++ in_order (gate_clauses l.top l.aig.inputs l.gate (drop l.gate l.aig.gates)) ≡
    l.initial.rows ++ in_order (gate_clauses l.top l.aig.inputs 0 l.aig.gates)
