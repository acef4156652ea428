use Rattle.std.proofs.Common.{◌∙◌}
use Rattle.q_encode.proofs.Translated.{clause-more}
use Rattle.q_encode.proofs.translating.translate.Goals as goal

pub loop-lit-preserved : goal.loop-lit-preserved
loop-lit-preserved c top cert h =
    c.in_ok-push.ensures.items ∙
    clause-more top cert c.args.clause.now c.loop-lit.made.items c.loop-lit.lit-index c.lit-item.result c.translated_lit.result c.loop-lit-test.true
    c.lit-item.is (c.loop-lit.invariant top cert h) (c.translated_lit.ensures top cert h)
