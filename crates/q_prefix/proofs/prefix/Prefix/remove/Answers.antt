use Rattle.std.proofs.Common.{◌≡◌, sym, subst, arith, true}
use Rattle.q_logic.specs.Prelude.{is_bound}
use Rattle.q_arena.specs.Prelude.{list_at}
use Rattle.q_prefix.specs.Order.{FlatPrefix}
use Rattle.q_prefix.proofs.ListedBounds.{has-bound}
use Rattle.q_prefix.proofs.PrefixChanges.{parted, prefix-removed, bounds-removed, mark-below}
use Rattle.q_prefix.proofs.prefix.Prefix.remove.Goals as goal

pub prev-before-requires : goal.prev-before-requires
prev-before-requires c =
    let marks = c.self.inside.marks.items in
    let vars = list_at c.self.inside.order 0 in
    (0, has-bound marks vars c.args.v (subst (λ (p : FlatPrefix). is_bound p.bounds c.args.v ≡ true) (sym c.self.view_is) c.requires))

pub next-after-requires : goal.next-after-requires
next-after-requires c =
    let marks = c.self.inside.marks.items in
    let vars = list_at c.self.inside.order 0 in
    (0, has-bound marks vars c.args.v (subst (λ (p : FlatPrefix). is_bound p.bounds c.args.v ≡ true) (sym c.self.view_is) c.requires))

pub remove-requires : goal.remove-requires
remove-requires c =
    let marks = c.self.inside.marks.items in
    let vars = list_at c.self.inside.order 0 in
    has-bound marks vars c.args.v (subst (λ (p : FlatPrefix). is_bound p.bounds c.args.v ≡ true) (sym c.self.view_is) c.requires)

pub join_blocks-requires : goal.join_blocks-requires
join_blocks-requires c =
    let marks = c.self.inside.marks.items in
    let vars = list_at c.self.inside.order 0 in
    let there = has-bound marks vars c.args.v (subst (λ (p : FlatPrefix). is_bound p.bounds c.args.v ≡ true) (sym c.self.view_is) c.requires) in
    parted c.self.inside.order c.remove.new.self marks c.args.v c.self.invariant c.remove.ensures.lists (c.distinct.ensures.apart 0) there c.prev-before.result c.next-after.result (c.prev-before.ensures 0 there) (c.next-after.ensures 0 there)

pub unbind-requires : goal.unbind-requires
unbind-requires c =
    let marks = c.self.inside.marks.items in
    let vars = list_at c.self.inside.order 0 in
    let there = has-bound marks vars c.args.v (subst (λ (p : FlatPrefix). is_bound p.bounds c.args.v ≡ true) (sym c.self.view_is) c.requires) in
    omega (arith, mark-below marks c.args.v (c.self.invariant.bound c.args.v there), c.join_blocks.ensures.len)

pub invariant_of-self : goal.invariant_of-self
invariant_of-self c =
    let marks = c.self.inside.marks.items in
    let vars = list_at c.self.inside.order 0 in
    let there = has-bound marks vars c.args.v (subst (λ (p : FlatPrefix). is_bound p.bounds c.args.v ≡ true) (sym c.self.view_is) c.requires) in
    prefix-removed c.self.inside.order c.remove.new.self marks c.join_blocks.new.marks.items c.unbind.new.marks.items c.args.v c.self.invariant c.remove.ensures.lists c.remove.ensures.owners (c.distinct.ensures.apart 0) there
    c.join_blocks.ensures.len c.join_blocks.ensures.quant c.join_blocks.ensures.bound c.join_blocks.ensures.ranked c.unbind.ensures.len c.unbind.ensures.gone c.unbind.ensures.same

pub returns-clause-bounds : goal.returns-clause-bounds
returns-clause-bounds c =
    let marks = c.self.inside.marks.items in
    let vars = list_at c.self.inside.order 0 in
    let there = has-bound marks vars c.args.v (subst (λ (p : FlatPrefix). is_bound p.bounds c.args.v ≡ true) (sym c.self.view_is) c.requires) in
    rw (← c.self.view_is) (bounds-removed c.self.inside.order c.remove.new.self marks c.join_blocks.new.marks.items c.unbind.new.marks.items c.args.v c.self.invariant c.remove.ensures.lists c.remove.ensures.owners (c.distinct.ensures.apart 0) there
    c.join_blocks.ensures.len c.join_blocks.ensures.quant c.join_blocks.ensures.bound c.join_blocks.ensures.ranked c.unbind.ensures.len c.unbind.ensures.gone c.unbind.ensures.same)
