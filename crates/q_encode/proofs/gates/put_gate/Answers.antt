use Rattle.std.proofs.lemmas.Result.{on_ok_weaker}
use Rattle.q_aig.specs.Prelude.{gate_of}
use Rattle.q_encode.proofs.MadeRows.{gate-put}
use Rattle.q_encode.proofs.gates.put_gate.Goals as goal

pub returns : goal.returns
returns c =
    on_ok_weaker c.put-3.result
    (λ h x q. gate-put c.args.top c.args.aig.now.inputs c.args.aig.now.gates c.args.gate x (gate_of c.operands-left.result) c.args.rows.now
    c.put.new.self c.put-2.new.self c.put-3.new.self
    c.gate_lit-lit.result c.negated.result c.negated-2.result c.operand_lit-left.result c.operand_lit-right.result c.negated-3.result c.negated-4.result
    c.operands-left.ensures.value q c.gate_lit-lit.ensures c.negated.ensures c.negated-2.ensures c.operand_lit-left.ensures c.operand_lit-right.ensures
    c.negated-3.ensures c.negated-4.ensures c.in_ok-put.ensures c.in_ok-put-2.ensures h) c.put-3.ensures
