use Rattle.q_arena.proofs.ArenaView.{lists-apart, lists-one, place-in, length-tags}
use Rattle.q_arena.proofs.rings.Rings.distinct.Goals as goal

pub returns-clause-apart : goal.returns-clause-apart
returns-clause-apart c = rw (← c.self.view_is) (lists-apart c.self.inside.places.items c.self.inside.heads.items c.self.invariant.sound)

pub returns-clause-one : goal.returns-clause-one
returns-clause-one c = rw (← c.self.view_is) (lists-one c.self.inside.places.items c.self.inside.heads.items c.self.invariant.sound)

pub returns-clause-below : goal.returns-clause-below
returns-clause-below c = rw (← c.self.view_is) (λ l p h.
    let i = place-in c.self.inside.places.items c.self.inside.heads.items c.self.invariant.sound l p h in
    rw (length-tags c.self.inside.places.items) i)
