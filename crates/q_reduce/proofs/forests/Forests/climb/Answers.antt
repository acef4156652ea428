use Rattle.std.proofs.Common.{List, subst}
use Rattle.q_logic.specs.Prelude.{IsIn}
use Rattle.q_logic.proofs.Common.{item-in}
use Rattle.q_reduce.specs.Forests.{ForestMap}
use Rattle.q_reduce.proofs.forests.Forests.climb.Goals as goal

pub climbs-requires : goal.climbs-requires
climbs-requires c =
    let all = rw (← c.self.view_is) at c.requires.right in
    let item = c.forest-item.result in
    all item (subst (λ (Fs : List ForestMap). IsIn item Fs) c.deref-forest-items.ensures.value (item-in c.deref-forest-items.result.now c.loop-forest.forest-index item c.loop-forest-test.true c.forest-item.is))
