use Rattle.std.proofs.Common.{◌≡◌, ap, length, arith}
use Rattle.q_aiger.specs.Written.{written_view}
use Rattle.q_aiger.proofs.ResolvedOperands.{cycle-line, outputs-count}
use Rattle.q_aiger.proofs.reader.cyclic.Goals as goal

pub returns : goal.returns
returns c =
    let a : length c.as_slice-inputs.result.now ≡ length c.args.written.now.inputs = ap length c.as_slice-inputs.ensures.value in
    let b : length c.as_slice-outputs.result.now ≡ length c.args.written.now.names = ap length c.as_slice-outputs.ensures.value in
    let d = outputs-count c.args.written.now.names c.args.written.now.outputs.items c.requires.lawful.same in
    cycle-line c.args._bytes.now (written_view c.args.written.now) c.args.gate _ c.requires.parsed c.requires.first (omega arith)
