use Rattle.std.proofs.Common.{◌≡◌, length, get_or, arith}
use Rattle.q_aig.specs.Nets.{operand_of}
use Rattle.q_aig.proofs.Nets.{part-there, IsThere-more}
use Rattle.q_aig.proofs.GateTables.{table-more}
use Rattle.q_aig.proofs.values.fill_table.Goals as goal

pub gate_value-requires-clause-left : goal.gate_value-requires-clause-left
gate_value-requires-clause-left c =
    let a : length c.loop-k.table ≡ length c.args.table.now = c.loop-k.auto.table in let b : length c.args.table.now ≡ length c.args.gates.now = c.requires.table in
    let r = part-there (length c.args.values.now) c.loop-k.k c.args.gates.now c.requires.gates c.loop-k-test.true in
    IsThere-more _ c.loop-k.k _ _ (operand_of (get_or c.args.gates.now c.loop-k.k (0, 0)).0).node r.0 (omega arith) (omega arith)

pub gate_value-requires-clause-right : goal.gate_value-requires-clause-right
gate_value-requires-clause-right c =
    let a : length c.loop-k.table ≡ length c.args.table.now = c.loop-k.auto.table in let b : length c.args.table.now ≡ length c.args.gates.now = c.requires.table in
    let r = part-there (length c.args.values.now) c.loop-k.k c.args.gates.now c.requires.gates c.loop-k-test.true in
    IsThere-more _ c.loop-k.k _ _ (operand_of (get_or c.args.gates.now c.loop-k.k (0, 0)).1).node r.1 (omega arith) (omega arith)

pub loop-k-preserved : goal.loop-k-preserved
loop-k-preserved c =
    table-more c.args.gates.now c.args.values.now c.loop-k.table c.loop-k.k c.gate_value.result c.requires.gates c.loop-k-test.true (omega (arith, c.requires.table)) c.gate_value.ensures c.loop-k.invariant
