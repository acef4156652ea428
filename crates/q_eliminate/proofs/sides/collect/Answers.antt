use Rattle.std.proofs.Common.{◌∙◌}
use Rattle.q_kernel.proofs.ForLoops.{all-came}
use Rattle.q_eliminate.proofs.LiteralIds.{collected}
use Rattle.q_eliminate.proofs.sides.collect.Goals as goal

pub returns : goal.returns
returns c =
    let h = c.holders-id-items in
    let came = all-came _ c.into_iter-id-iterator.ensures.into_iter_gives c.loop-id.yielded_by c.in-None.ensures.steps.0 in
    collected c.args.kernel.now c.args.lit c.loop-id.ids.items h.result (c.loop-id.invariant ∙ came) h.ensures.once h.ensures.hold h.ensures.all
