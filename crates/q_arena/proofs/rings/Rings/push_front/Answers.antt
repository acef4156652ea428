use Rattle.std.proofs.Common.{arith, refl, sym, ◌∙◌, subst, length, ◌<◌, ℕ, List}
use Rattle.q_arena.specs.Rings.{Has}
use Rattle.q_arena.specs.Chains.{Chains, list_at}
use Rattle.q_arena.proofs.ArenaView.{list-is, length-lists, owned-sound, owned-lists, owned-owners}
use Rattle.q_arena.proofs.rings.Rings.push_front.Goals as goal

pub put_front-requires-clause-fresh : goal.put_front-requires-clause-fresh
put_front-requires-clause-fresh c = λ m mh h.
    let f = subst (λ (v : Chains). (m : ℕ) → Has (list_at v m) c.args.place → ⊥) (sym c.self.view_is) c.requires.fresh in
    f m (subst (λ (xs : List ℕ). Has xs c.args.place) (sym (list-is c.self.inside.places.items c.self.inside.heads.items m)) h)

pub invariant_of-self : goal.invariant_of-self
invariant_of-self c = record {
  sound = owned-sound c.self.invariant.sound c.put_front.ensures.lists c.put_front.new.places.items c.put_front.new.heads.items (c.put_front.ensures.tagged c.put_front.new.heads.items) c.put_front.ensures.long refl (rw (← c.self.view_is) at c.requires.place);
  blank_places = c.put_front.ensures.alike.places ∙ c.self.invariant.blank_places;
  blank_heads = c.put_front.ensures.alike.heads ∙ c.self.invariant.blank_heads;
  full = record {
    places = λ t. c.put_front.ensures.alike.full_places ∙ c.self.invariant.full.places t;
    heads = λ t. c.put_front.ensures.alike.full_heads ∙ c.self.invariant.full.heads t;
  };
}

pub returns-clause-lists : goal.returns-clause-lists
returns-clause-lists c =
    let p = c.self.inside.places.items in
    let h = c.self.inside.heads.items in
    let lh = length-lists p h in
    let head : c.args.head < length h = omega (arith, lh, rw (← c.self.view_is) at c.requires.head) in
    rw (← c.self.view_is) (rw (list-is p h c.args.head) (owned-lists c.self.invariant.sound c.put_front.ensures.lists c.put_front.new.places.items c.put_front.new.heads.items (c.put_front.ensures.tagged c.put_front.new.heads.items) c.put_front.ensures.long refl (rw (← c.self.view_is) at c.requires.place) head))

pub returns-clause-owners : goal.returns-clause-owners
returns-clause-owners c = rw (← c.self.view_is) (owned-owners c.self.invariant.sound c.put_front.ensures.lists c.put_front.new.places.items c.put_front.new.heads.items (c.put_front.ensures.tagged c.put_front.new.heads.items) c.put_front.ensures.long refl (rw (← c.self.view_is) at c.requires.place))

pub put_front-requires-clause-head : goal.put_front-requires-clause-head
put_front-requires-clause-head c =
    let n = length-lists c.self.inside.places.items c.self.inside.heads.items in
    omega (arith, n, rw (← c.self.view_is) at c.requires.head)

pub overflow_cast-head : goal.overflow_cast-head
overflow_cast-head c =
    let n = length-lists c.self.inside.places.items c.self.inside.heads.items in
    omega (arith, n, rw (← c.self.view_is) at c.requires.head, c.self.invariant.sound.few_heads)
