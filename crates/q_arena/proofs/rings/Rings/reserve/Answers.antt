use Rattle.std.proofs.Common.{refl}
use Rattle.q_arena.proofs.ArenaView.{length-lists}
use Rattle.q_arena.proofs.Growth.{AreRows-grown, few-grown, lists-kept, owners-kept}
use Rattle.q_arena.proofs.rings.Rings.reserve.Goals as goal

pub invariant_of-self : goal.invariant_of-self
invariant_of-self c =
    AreRows-grown c.grow.new.self c.self.inside.heads c.self.invariant c.grow.ensures.none refl c.grow.ensures.items (λ k. refl) c.grow.ensures.kept
    (few-grown _ _ c.args.room c.self.invariant.sound.few_places c.if-room-gt-MOST.false c.grow.ensures.exact) c.self.invariant.sound.few_heads c.grow.ensures.full refl

pub invariant_of-self-2 : goal.invariant_of-self-2
invariant_of-self-2 c =
    AreRows-grown c.grow.new.self c.grow-2.new.self c.self.invariant c.grow.ensures.none c.grow-2.ensures.none c.grow.ensures.items c.grow-2.ensures.items c.grow.ensures.kept
    (few-grown _ _ c.args.room c.self.invariant.sound.few_places c.if-room-gt-MOST.false c.grow.ensures.exact)
    (few-grown _ _ c.args.heads c.self.invariant.sound.few_heads c.if-heads-gt-MOST.false c.grow-2.ensures.exact)
    c.grow.ensures.full c.grow-2.ensures.full

pub returns-in_err-grow-clause-lists : goal.returns-in_err-grow-clause-lists
returns-in_err-grow-clause-lists c =
    rw (← c.self.view_is) (lists-kept c.grow.new.self c.self.inside.heads c.self.invariant c.grow.ensures.none refl c.grow.ensures.items (λ k. refl))

pub returns-in_err-grow-clause-owners : goal.returns-in_err-grow-clause-owners
returns-in_err-grow-clause-owners c =
    rw (← c.self.view_is) (owners-kept c.grow.new.self c.self.inside.heads c.self.invariant c.grow.ensures.none refl c.grow.ensures.items (λ k. refl))

pub returns-clause-lists : goal.returns-clause-lists
returns-clause-lists c =
    rw (← c.self.view_is) (lists-kept c.grow.new.self c.grow-2.new.self c.self.invariant c.grow.ensures.none c.grow-2.ensures.none c.grow.ensures.items c.grow-2.ensures.items)

pub returns-clause-owners : goal.returns-clause-owners
returns-clause-owners c =
    rw (← c.self.view_is) (owners-kept c.grow.new.self c.grow-2.new.self c.self.invariant c.grow.ensures.none c.grow-2.ensures.none c.grow.ensures.items c.grow-2.ensures.items)

pub returns-clause-heads : goal.returns-clause-heads
returns-clause-heads c = rw (length-lists c.grow.new.self.items c.grow-2.new.self.items) c.grow-2.ensures.len

pub returns-clause-kept_heads : goal.returns-clause-kept_heads
returns-clause-kept_heads c =
    let old = length-lists c.self.inside.places.items c.self.inside.heads.items in
    let new = length-lists c.grow.new.self.items c.grow-2.new.self.items in
    rw (← c.self.view_is) (rw (old, new) c.grow-2.ensures.kept)
