use Rattle.q_kernel.specs.Kernels.{slots}
use Rattle.q_kernel.proofs.ForLoops.{live-turn, each-came, All-more}
use Rattle.q_kernel.proofs.KeptView.{IsNotEmpty, not-empty-all, not-empty-one, not-zero}
use Rattle.q_kernel.proofs.kernel.Kernel.first_empty.Goals as goal

pub lits-requires : goal.lits-requires
lits-requires c = live-turn _ _ c.ids-id-items.ensures.live c.into_iter-id-iterator.ensures.into_iter_gives c.loop-id.yielded_by c.in-Some.ensures.steps

pub loop-id-preserved : goal.loop-id-preserved
loop-id-preserved c =
    let N = slots c.args.self.now in
    All-more (IsNotEmpty N) c.loop-id.yielded c.in-Some.id c.loop-id.invariant (not-empty-one N c.in-Some.id c.lits.result.now c.lits.ensures.clause (not-zero _ _ c.is_empty.ensures c.if-is_empty.false))

pub returns : goal.returns
returns c = absurd (not-empty-all (slots c.args.self.now) (each-came _ _ _ c.ids-id-items.ensures.all c.into_iter-id-iterator.ensures.into_iter_gives c.loop-id.yielded_by c.in-None.ensures.steps.0 c.loop-id.invariant) c.requires)
