use Rattle.std.proofs.Common.{arith, sym, ◌∙◌, subst, ℕ, List}
use Rattle.q_arena.specs.Rings.{Has}
use Rattle.q_arena.specs.Chains.{Chains, list_at}
use Rattle.q_arena.proofs.ArenaView.{list-is, relisted-sound, relisted-lists, relisted-owners, Has-head}
use Rattle.q_arena.proofs.SoundRings.{place-below}
use Rattle.q_arena.proofs.rings.Rings.remove.Goals as goal

pub overflow_cast-place : goal.overflow_cast-place
overflow_cast-place c =
    let p = c.self.inside.places.items in
    let h = c.self.inside.heads.items in
    let there = subst (λ (v : Chains). Has (list_at v c.args.head) c.args.place) (sym c.self.view_is) c.requires in
    let below = place-below p h c.self.invariant.sound c.args.head (Has-head p h c.args.head c.args.place there) c.args.place
    (subst (λ (xs : List ℕ). Has xs c.args.place) (list-is p h c.args.head) there) in
    omega (arith, below, c.self.invariant.sound.few_places)

pub take_out-requires-clause-head : goal.take_out-requires-clause-head
take_out-requires-clause-head c =
    Has-head c.self.inside.places.items c.self.inside.heads.items c.args.head c.args.place
    (subst (λ (v : Chains). Has (list_at v c.args.head) c.args.place) (sym c.self.view_is) c.requires)

pub take_out-requires-clause-there : goal.take_out-requires-clause-there
take_out-requires-clause-there c =
    subst (λ (xs : List ℕ). Has xs c.args.place) (list-is c.self.inside.places.items c.self.inside.heads.items c.args.head)
    (subst (λ (v : Chains). Has (list_at v c.args.head) c.args.place) (sym c.self.view_is) c.requires)

pub invariant_of-self : goal.invariant_of-self
invariant_of-self c = record {
  sound = relisted-sound c.self.invariant.sound c.take_out.ensures.lists;
  blank_places = c.take_out.ensures.blanks.places ∙ c.self.invariant.blank_places;
  blank_heads = c.take_out.ensures.blanks.heads ∙ c.self.invariant.blank_heads;
  full = record {
    places = λ t. c.take_out.ensures.blanks.full_places ∙ c.self.invariant.full.places t;
    heads = λ t. c.take_out.ensures.blanks.full_heads ∙ c.self.invariant.full.heads t;
  };
}

pub returns-clause-lists : goal.returns-clause-lists
returns-clause-lists c =
    let p = c.self.inside.places.items in
    let h = c.self.inside.heads.items in
    let head = Has-head p h c.args.head c.args.place (rw (← c.self.view_is) at c.requires) in
    rw (← c.self.view_is) (rw (list-is p h c.args.head) (relisted-lists c.self.invariant.sound c.take_out.ensures.lists head))

pub returns-clause-owners : goal.returns-clause-owners
returns-clause-owners c = rw (← c.self.view_is) (relisted-owners c.self.invariant.sound c.take_out.ensures.lists)

pub overflow_cast-head : goal.overflow_cast-head
overflow_cast-head c =
    let there = subst (λ (v : Chains). Has (list_at v c.args.head) c.args.place) (sym c.self.view_is) c.requires in
    omega (arith, Has-head c.self.inside.places.items c.self.inside.heads.items c.args.head c.args.place there, c.self.invariant.sound.few_heads)
