use Rattle.q_kernel.specs.Prelude.{slots}
use Rattle.q_kernel.proofs.ForLoops.{live-turn, each-came, All-more}
use Rattle.q_equiv.proofs.FallingLevels.{FallsAt, falls-one, all-fall}
use Rattle.q_equiv.proofs.levels.never_rise.Goals as goal

pub lits-requires : goal.lits-requires
lits-requires c = live-turn _ _ c.ids-id-items.ensures.live c.into_iter-id-iterator.ensures.into_iter_gives c.loop-id.yielded_by c.in-Some.ensures.steps

pub loop-id-preserved : goal.loop-id-preserved
loop-id-preserved c =
    let N = slots c.args.kernel.now in
    All-more (FallsAt c.args.levels.now N) c.loop-id.yielded c.in-Some.id c.loop-id.invariant (falls-one c.args.levels.now N c.in-Some.id c.lits.result.now c.lits.ensures.clause (c.rises.ensures c.if-rises.false))

pub returns : goal.returns
returns c t =
    let N = slots c.args.kernel.now in
    all-fall c.args.levels.now N
    (λ d D s. let f : FallsAt c.args.levels.now N d = each-came _ (FallsAt c.args.levels.now N) _ c.ids-id-items.ensures.all c.into_iter-id-iterator.ensures.into_iter_gives c.loop-id.yielded_by c.in-None.ensures.steps.0 c.loop-id.invariant d (record { there = (D, s) }) in f.falls D s)
