use Rattle.std.proofs.Common.{arith, refl, sym, ◌∙◌, subst, ℕ, List}
use Rattle.q_arena.specs.Rings.{Has}
use Rattle.q_arena.specs.Chains.{Chains, list_at}
use Rattle.q_arena.proofs.ArenaView.{list-is, owned-sound, owned-lists, owned-owners, Has-head}
use Rattle.q_arena.proofs.SoundRings.{place-below}
use Rattle.q_arena.proofs.rings.Rings.insert_after.Goals as goal

pub overflow_cast-after : goal.overflow_cast-after
overflow_cast-after c =
    let p = c.self.inside.places.items in
    let h = c.self.inside.heads.items in
    let there = subst (λ (v : Chains). Has (list_at v c.args.head) c.args.after) (sym c.self.view_is) c.requires.after in
    let below = place-below p h c.self.invariant.sound c.args.head (Has-head p h c.args.head c.args.after there) c.args.after
    (subst (λ (xs : List ℕ). Has xs c.args.after) (list-is p h c.args.head) there) in
    omega (arith, below, c.self.invariant.sound.few_places)

pub put_after-requires-clause-fresh : goal.put_after-requires-clause-fresh
put_after-requires-clause-fresh c = λ m mh h.
    let f = subst (λ (v : Chains). (m : ℕ) → Has (list_at v m) c.args.place → ⊥) (sym c.self.view_is) c.requires.fresh in
    f m (subst (λ (xs : List ℕ). Has xs c.args.place) (sym (list-is c.self.inside.places.items c.self.inside.heads.items m)) h)

pub invariant_of-self : goal.invariant_of-self
invariant_of-self c = record {
  sound = owned-sound c.self.invariant.sound c.put_after.ensures.lists c.set_tag.new.places.items c.put_after.new.heads.items (c.set_tag.ensures.tagged c.put_after.new.heads.items) c.set_tag.ensures.places refl (rw (← c.self.view_is) at c.requires.place);
  blank_places = c.set_tag.ensures.none ∙ c.put_after.ensures.blanks.places ∙ c.self.invariant.blank_places;
  blank_heads = c.put_after.ensures.blanks.heads ∙ c.self.invariant.blank_heads;
  full = record {
    places = λ t. c.set_tag.ensures.full ∙ c.put_after.ensures.blanks.full_places ∙ c.self.invariant.full.places t;
    heads = λ t. c.put_after.ensures.blanks.full_heads ∙ c.self.invariant.full.heads t;
  };
}

pub returns-clause-lists : goal.returns-clause-lists
returns-clause-lists c =
    let p = c.self.inside.places.items in
    let h = c.self.inside.heads.items in
    let head = Has-head p h c.args.head c.args.after (rw (← c.self.view_is) at c.requires.after) in
    rw (← c.self.view_is) (rw (list-is p h c.args.head) (owned-lists c.self.invariant.sound c.put_after.ensures.lists c.set_tag.new.places.items c.put_after.new.heads.items (c.set_tag.ensures.tagged c.put_after.new.heads.items) c.set_tag.ensures.places refl (rw (← c.self.view_is) at c.requires.place) head))

pub returns-clause-owners : goal.returns-clause-owners
returns-clause-owners c = rw (← c.self.view_is) (owned-owners c.self.invariant.sound c.put_after.ensures.lists c.set_tag.new.places.items c.put_after.new.heads.items (c.set_tag.ensures.tagged c.put_after.new.heads.items) c.set_tag.ensures.places refl (rw (← c.self.view_is) at c.requires.place))

pub put_after-requires-clause-head : goal.put_after-requires-clause-head
put_after-requires-clause-head c =
    Has-head c.self.inside.places.items c.self.inside.heads.items c.args.head c.args.after
    (subst (λ (v : Chains). Has (list_at v c.args.head) c.args.after) (sym c.self.view_is) c.requires.after)

pub put_after-requires-clause-there : goal.put_after-requires-clause-there
put_after-requires-clause-there c =
    subst (λ (xs : List ℕ). Has xs c.args.after) (list-is c.self.inside.places.items c.self.inside.heads.items c.args.head)
    (subst (λ (v : Chains). Has (list_at v c.args.head) c.args.after) (sym c.self.view_is) c.requires.after)

pub overflow_cast-head : goal.overflow_cast-head
overflow_cast-head c =
    let there = subst (λ (v : Chains). Has (list_at v c.args.head) c.args.after) (sym c.self.view_is) c.requires.after in
    omega (arith, Has-head c.self.inside.places.items c.self.inside.heads.items c.args.head c.args.after there, c.self.invariant.sound.few_heads)
