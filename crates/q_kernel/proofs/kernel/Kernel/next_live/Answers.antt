use Rattle.q_kernel.proofs.KernelSizes.{slot-live, not_live-slot}
use Rattle.q_kernel.proofs.kernel.Kernel.next_live.Goals as goal

pub returns-clause-some : goal.returns-clause-some
returns-clause-some c = rw (← c.self.view_is) (λ id e. let r = c.next_live.ensures.some id e in (r.0, r.1.0, slot-live c.self.inside.arena id r.1.0 r.1.1))

pub returns-clause-least : goal.returns-clause-least
returns-clause-least c = rw (← c.self.view_is) (λ id j e f b. not_live-slot c.self.inside.arena j (c.next_live.ensures.least id j e f b))

pub returns-clause-none : goal.returns-clause-none
returns-clause-none c = rw (← c.self.view_is) (λ e j f. not_live-slot c.self.inside.arena j (c.next_live.ensures.none e j f))
