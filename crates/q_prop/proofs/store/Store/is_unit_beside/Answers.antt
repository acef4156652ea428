use Rattle.std.proofs.Common.{◌∙◌, Some, [], ◌∷◌}
use Rattle.q_prop.specs.Slots.{without}
use Rattle.q_prop.proofs.SlotLemmas.{filled-in, without-other}
use Rattle.q_prop.proofs.store.Store.is_unit_beside.Goals as goal

pub returns-in-Some : goal.returns-in-Some
returns-in-Some c told =
    let s = c.args.self.now in
    let n = c.args.at in
    let m = c.in-Some.slot in
    filled-in (without s (Some n)) m (c.args.lit ∷ []) (without-other s n m (c.is_other.ensures told) ∙ c.in-Some.ensures)
