use Rattle.std.proofs.Common.{◌<◌, ◌∙◌, length, sym, arith}
use Rattle.q_logic.proofs.Common.{item-in, test-false}
use Rattle.q_blocked.proofs.units.is_single.Goals as goal

pub returns-then-not-is : goal.returns-then-not-is
returns-then-not-is c s =
    let C = c.args.clause.now in
    let room : c.loop-k.k-index < length C = c.loop-k-test.true in
    let m = item-in C c.loop-k.k-index c.k-item.result room c.k-item.is in
    let n = item-in C 0 c.index-clause-0.result (omega arith) c.index-clause-0.is in
    absurd (test-false c.is.result c.is.ensures c.if-not-is.true (s.2 c.k-item.result m ∙ sym (s.2 c.index-clause-0.result n)))
