use Rattle.std.proofs.Common.{◌≤◌, ◌^◌, length-append, arith}
use Rattle.q_log.proofs.LiteralTexts.{text-next, place-small}
use Rattle.q_log.proofs.text.lits_len.Goals as goal

pub loop-lit-preserved : goal.loop-lit-preserved
loop-lit-preserved c =
    let n = text-next c.args.lits.now c.loop-lit.lit-index c.lit-item.result c.loop-lit-test.true in
    let m = rw (← c.lit-item.is) at n in
    let r = rw (m, length-append) at c.loop-lit.invariant.text in
    let v = rw c.lit-item.is at c.lit_len-len.ensures.small in
    let s : c.loop-lit.lit-index ≤ 2 ^ 32 = place-small c.args.lits.now c.loop-lit.lit-index c.lit-item.result c.requires c.loop-lit-test.true v in
    record { text = omega arith; bound = omega arith; small = omega arith }
