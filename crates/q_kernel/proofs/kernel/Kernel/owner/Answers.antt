use Rattle.q_kernel.proofs.PlaceLists.{place-clause}
use Rattle.q_kernel.proofs.kernel.Kernel.owner.Goals as goal

pub returns-clause-holds : goal.returns-clause-holds
returns-clause-holds c = rw (← c.self.view_is) (λ l h. rw c.owner.ensures (place-clause c.self.inside.occ c.self.inside.arena c.self.invariant.linked l c.args.place h))
