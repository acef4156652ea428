use Rattle.std.proofs.Common.{ap, length, arith}
use Rattle.q_aiger.proofs.ResolvedOperands.{lines-few}
use Rattle.q_aiger.proofs.reader.read_lines.Goals as goal

pub read_body-requires-clause-few : goal.read_body-requires-clause-few
read_body-requires-clause-few c =
    let few = lines-few c.args.bytes.now in
    let more = ap length c.in-Some.ensures in
    omega arith
