use Rattle.std.proofs.Common.{◌≡◌, ◌≤◌, ◌+◌, ◌-◌, length, subst, arith}
use Rattle.q_aig.specs.Prelude.{gate_of}
use Rattle.q_aig.specs.Nodes.{node_view}
use Rattle.q_certificate.specs.Copied.{AreMarking}
use Rattle.q_certificate.proofs.CircuitCopies.{marking-next, marking-turn}
use Rattle.q_certificate.proofs.copying.mark_all.Goals as goal

pub loop-i-preserved : goal.loop-i-preserved
loop-i-preserved c = marking-next (length c.args.aig.now.inputs) c.args.aig.now.gates c.args.outputs.now c.loop-i.marks c.mark.new.marks c.loop-i.i (node_view c.node.result) c.loop-i.invariant c.loop-i-test.true c.node.ensures.value c.node.ensures.there c.mark.ensures.marked c.mark.ensures.kept c.mark.ensures.only

pub loop-gate-preserved-then-marks-gate : goal.loop-gate-preserved-then-marks-gate
loop-gate-preserved-then-marks-gate c =
    let b : c.loop-gate.gate ≤ length c.args.aig.now.gates = c.loop-gate.invariant.bound in
    let back : c.loop-gate.gate ≡ c.loop-gate.gate - 1 + 1 = omega arith in
    let a : AreMarking c.args.aig.now.gates c.args.outputs.now c.loop-gate.marks (length c.args.outputs.now) (c.loop-gate.gate - 1 + 1) = subst (AreMarking c.args.aig.now.gates c.args.outputs.now c.loop-gate.marks (length c.args.outputs.now)) back c.loop-gate.invariant.marked in
    let m = c.mark-then-marks-gate.ensures in
    let n = c.mark-then-marks-gate-2.ensures in
    record {
      bound = omega arith;
      marked = marking-turn (length c.args.aig.now.inputs) c.args.aig.now.gates c.args.outputs.now c.loop-gate.marks c.mark-then-marks-gate.new.marks c.mark-then-marks-gate-2.new.marks (length c.args.outputs.now) (c.loop-gate.gate - 1) (gate_of c.operands-left.result) (node_view c.node-then-marks-gate.result) (node_view c.node-then-marks-gate-2.result) a c.if-marks-gate.true c.operands-left.ensures.value c.operands-left.ensures.left c.operands-left.ensures.right c.node-then-marks-gate.ensures.value c.node-then-marks-gate-2.ensures.value m.marked m.kept m.only n.marked n.kept n.only;
    }
