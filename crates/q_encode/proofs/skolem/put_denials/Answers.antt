use Rattle.q_encode.proofs.MadeRows.{denials-more}
use Rattle.q_encode.proofs.skolem.put_denials.Goals as goal

pub loop-k-preserved : goal.loop-k-preserved
loop-k-preserved c top cert h =
    denials-more top cert c.args.lit c.k-item.result c.translated_lit.result c.negated.result c.negated-in-loop-k.result c.loop-k.rows c.put.new.self c.args.rows.now
    c.args.clause.now c.loop-k.k-index c.loop-k-test.true c.k-item.is (c.translated_lit.ensures top cert h) c.negated.ensures c.negated-in-loop-k.ensures
    c.in_ok-put.ensures (c.loop-k.invariant top cert h)
