use Rattle.std.proofs.Common.{sym, ◌∙◌, ap, subst, List, length}
use Rattle.q_arena.specs.Prelude.{list_at}
use Rattle.q_arena.proofs.ArenaView.{length-set'}
use Rattle.q_prefix.specs.declared.marks.Mark.{Mark}
use Rattle.q_prefix.specs.Order.{IsPrefix, bounds_of}
use Rattle.q_prefix.proofs.PrefixChanges.{prefix-pushed, bounds-pushed}
use Rattle.q_prefix.proofs.blocks.push.Goals as goal

pub returns-clause-prefix : goal.returns-clause-prefix
returns-clause-prefix c =
    let owners = ap length c.push_front.ensures.owners ∙ length-set' c.args.order.now.owners c.args.bound.var 0 in
    subst (IsPrefix c.push_front.new.self) (sym c.set_mark.ensures)
    (prefix-pushed c.args.order.now c.push_front.new.self c.args.marks.now.items c.args.bound c.args.rank c.requires.prefix c.push_front.ensures.lists owners c.requires.absent c.requires.reserved c.requires.before)

pub returns-clause-bounds : goal.returns-clause-bounds
returns-clause-bounds c =
    let owners = ap length c.push_front.ensures.owners ∙ length-set' c.args.order.now.owners c.args.bound.var 0 in
    ap (λ (marks : List Mark). bounds_of marks (list_at c.push_front.new.self 0)) c.set_mark.ensures
    ∙ bounds-pushed c.args.order.now c.push_front.new.self c.args.marks.now.items c.args.bound c.args.rank c.requires.prefix c.push_front.ensures.lists owners c.requires.absent c.requires.reserved
