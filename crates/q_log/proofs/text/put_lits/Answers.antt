use Rattle.std.proofs.Common.{length-append, arith}
use Rattle.q_log.proofs.LiteralTexts.{text-next}
use Rattle.q_log.proofs.text.put_lits.Goals as goal

pub put_lit-requires : goal.put_lit-requires
put_lit-requires c =
    let n = text-next c.args.lits.now c.loop-lit.lit-index c.lit-item.result c.loop-lit-test.true in
    let m = rw (← c.lit-item.is) at n in
    let r = rw (m, length-append) at c.loop-lit.invariant.room in
    omega arith
