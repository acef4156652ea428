use Rattle.q_kernel.specs.Prelude.{slots}
use Rattle.q_kernel.proofs.ForLoops.{live-turn, each-came, All-more}
use Rattle.q_reduce.proofs.RegionSeparation.{IsVerified, verified-one, verified-all}
use Rattle.q_reduce.proofs.regions.Regions.is_right.Goals as goal

pub lits-requires : goal.lits-requires
lits-requires c = live-turn _ _ c.ids-id-items.ensures.live c.into_iter-id-iterator.ensures.into_iter_gives c.loop-id.yielded_by c.in-Some.ensures.steps

pub loop-id-preserved : goal.loop-id-preserved
loop-id-preserved c =
    let k = c.args.kernel.now in
    All-more (IsVerified k.prefix (slots k) c.args.self.now c.args.w) c.loop-id.yielded c.in-Some.id c.loop-id.invariant
    (verified-one k.prefix (slots k) c.args.self.now c.args.w c.in-Some.id c.lits.result.now c.lits.ensures.clause (c.fits.ensures c.if-not-fits.false))

pub returns : goal.returns
returns c t =
    let k = c.args.kernel.now in
    verified-all k.prefix (slots k) c.args.self.now c.args.w
    (each-came _ (IsVerified k.prefix (slots k) c.args.self.now c.args.w) _ c.ids-id-items.ensures.all c.into_iter-id-iterator.ensures.into_iter_gives c.loop-id.yielded_by c.in-None.ensures.steps.0 c.loop-id.invariant)
