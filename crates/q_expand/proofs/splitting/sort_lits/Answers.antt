use Rattle.std.proofs.Common.{◌∙◌}
use Rattle.std.proofs.lemmas.List.Filters.{dedup_is}
use Rattle.q_logic.proofs.SortedSets.{dedup-sorted}
use Rattle.q_expand.proofs.splitting.sort_lits.Goals as goal

pub returns-clause-items : goal.returns-clause-items
returns-clause-items c =
    let is = dedup_is _ _ _ c.dedup.ensures.filtered in
    is ∙ dedup-sorted c.args.lits.now.items c.sort_unstable.new.self.items c.sort_unstable.ensures.permutation c.sort_unstable.ensures.sorted
