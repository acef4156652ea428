use Rattle.std.proofs.Common.{arith}
use Rattle.std.proofs.lemmas.List.{length-map}
use Rattle.q_gates.specs.Gates.{gates_view, gate_view}
use Rattle.q_gates.proofs.GateWalk.{defined}
use Rattle.q_gates.proofs.cycles.first_cycle.Goals as goal

pub unreachable-requires : goal.unreachable-requires
unreachable-requires c =
    let d = c.requires.some in
    let len = length-map c.args.parts.now gate_view in
    let lt = defined (gates_view c.args.parts.now) d.0 d.0 d.1 in
    c.loop-g.invariant d.0 (omega arith) d.1
