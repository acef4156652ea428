use Rattle.std.proofs.Common.{List, ℕ, subst, arith}
use Rattle.q_certificate.specs.Copied.{IsCopy}
use Rattle.q_certificate.proofs.CircuitCopies.{copied-skip, copied-more}
use Rattle.q_certificate.proofs.copying.copy_gates.Goals.{then-marks-gate+in_ok-lit+in_ok-push, else-marks-gate+in_ok-push-2}
use Rattle.q_certificate.proofs.copying.copy_gates.Goals as goal

pub loop-gate-preserved : goal.loop-gate-preserved
loop-gate-preserved c = elim c.if-marks-gate.branch [
  | then-marks-gate+in_ok-lit+in_ok-push w ↦
      rw (w.aig-is, w.row-is) (copied-more c.args.old.now c.args.aig.now c.loop-gate.aig w.copy_gate.new.aig c.args.marks.now c.args.inputs.now.items c.loop-gate.row.items w.push.new.self.items c.loop-gate.gate w.in_ok-lit.lit w.if-marks-gate.true c.requires.inputs c.loop-gate.invariant
      (subst (λ (row : List ℕ). IsCopy c.args.old.now c.args.inputs.now.items c.loop-gate.aig w.copy_gate.new.aig row c.loop-gate.gate w.in_ok-lit.lit) w.deref.ensures.value w.in_ok-lit.ensures)
      (λ x q. c.requires.marked.closed c.loop-gate.gate x (omega arith) w.if-marks-gate.true q)
      w.in_ok-push.ensures.items)
  | else-marks-gate+in_ok-push-2 w ↦
      rw (w.aig-is, w.row-is) (copied-skip c.args.old.now c.args.aig.now c.loop-gate.aig c.args.marks.now c.args.inputs.now.items c.loop-gate.row.items w.push-else-marks-gate.new.self.items c.loop-gate.gate c.loop-gate.invariant w.if-marks-gate.false w.in_ok-push-2.ensures.items)
]
