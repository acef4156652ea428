use Rattle.q_certificate.proofs.CircuitCopies.{copy-is}
use Rattle.q_certificate.proofs.copying.copy_gate.Goals as goal

pub returns : goal.returns
returns c = copy-is c.args.old.now c.args.aig.now _ c.args.inputs.now.items c.args.row.now c.args.gate c.operands-left.result.0 c.operands-left.result.1 c.translate-a.result c.translate-b.result _ c.inputs.ensures.net c.operands-left.ensures.value c.operands-left.ensures.left c.operands-left.ensures.right c.translate-a.ensures c.translate-b.ensures c.in_ok-lit.ensures.conjunction
