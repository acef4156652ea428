use Rattle.std.proofs.Common.{List, subst}
use Rattle.q_logic.specs.Prelude.{IsIn}
use Rattle.q_judge.specs.Regions.{RegionMap}
use Rattle.q_logic.proofs.Common.{item-in}
use Rattle.q_judge.proofs.recent.RecentRegions.separate.Goals as goal

pub separate-requires-clause-regions : goal.separate-requires-clause-regions
separate-requires-clause-regions c =
    let all = rw (← c.self.view_is) at c.requires.regions in
    let R = c.regions-item.result in
    all R (subst (λ (Rs : List RegionMap). IsIn R Rs) c.deref-regions-items.ensures.value (item-in c.deref-regions-items.result.now c.loop-regions.regions-index R c.loop-regions-test.true c.regions-item.is))
