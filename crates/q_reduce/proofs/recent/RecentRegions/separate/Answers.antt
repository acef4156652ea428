use Rattle.std.proofs.Common.{List, subst}
use Rattle.q_logic.specs.Prelude.{IsIn}
use Rattle.q_reduce.specs.Regions.{RegionMap}
use Rattle.q_logic.proofs.Common.{item-in}
use Rattle.q_reduce.proofs.recent.RecentRegions.separate.Goals as goal

pub separates-requires-clause-regions : goal.separates-requires-clause-regions
separates-requires-clause-regions c =
    let all = rw (← c.self.view_is) at c.requires.regions in
    let item = c.regions-item.result in
    all item (subst (λ (Rs : List RegionMap). IsIn item Rs) c.deref-regions-items.ensures.value (item-in c.deref-regions-items.result.now c.loop-regions.regions-index item c.loop-regions-test.true c.regions-item.is))
