use Rattle.std.proofs.Common.{◌∙◌}
use Rattle.std.proofs.lemmas.List.Filters.{dedup_is}
use Rattle.q_check.specs.Numbers.{numbered_by, left_out}
use Rattle.q_check.proofs.AscendingNumbers.{sorted-with}
use Rattle.q_check.proofs.SlotNumbers.{named-holds, holds-named}
use Rattle.q_check.proofs.numbered.NumberedBook.holding.Goals as goal

pub returns : goal.returns
returns c =
    let s = c.self.inside.ledger.slots in
    let ps = c.self.inside.numbers in
    let is = dedup_is _ _ _ c.dedup.ensures.filtered in
    let members = rw c.store.ensures at c.holders.ensures.members in
    let have = c.in_ok-name_holders.ensures in
    rw (← c.self.view_is) (is ∙ sorted-with c.args.m (left_out c.args.skip (numbered_by s ps)) c.name_holders.new.names.items c.sort_unstable.new.self.items c.sort_unstable.ensures.permutation c.sort_unstable.ensures.sorted
    (named-holds s ps c.self.invariant c.args.m c.args.skip c.holders.result.now c.name_holders.new.names.items members have)
    (holds-named s ps c.self.invariant c.args.m c.args.skip c.holders.result.now c.name_holders.new.names.items members have))
