use Rattle.std.proofs.Common.{◌++◌, ◌∷◌, [], ◌+◌, ◌<◌, ◌∙◌, ap, sym, drop, length, arith}
use Rattle.q_logic.specs.Prelude.{Matrix}
use Rattle.q_miter.specs.Miters.{gate_clauses, in_order}
use Rattle.q_encode.proofs.GateParts.{there-gate}
use Rattle.q_encode.proofs.MadeRows.{put-more, gates-next}
use Rattle.q_encode.proofs.gates.put_gates.Goals as goal

pub loop-gate-preserved : goal.loop-gate-preserved
loop-gate-preserved c =
    let l : c.loop-gate.gate < length c.args.aig.now.gates = omega arith in
    let w = there-gate c.args.aig.now.gates c.loop-gate.gate l in
    let part = in_order (gate_clauses c.args.top c.args.aig.now.inputs c.loop-gate.gate (w.0 ∷ [])) in
    let rest = in_order (gate_clauses c.args.top c.args.aig.now.inputs (c.loop-gate.gate + 1) (drop (c.loop-gate.gate + 1) c.args.aig.now.gates)) in
    put-more c.loop-gate.rows c.put_gate.new.rows _ part rest (c.in_ok-put_gate.ensures w.0 w.1)
    (ap (λ (X : Matrix). c.loop-gate.rows ++ X) (sym (gates-next c.args.top c.args.aig.now.inputs c.args.aig.now.gates c.loop-gate.gate w.0 w.1)) ∙
    c.loop-gate.invariant)
