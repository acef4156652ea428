use Rattle.q_kernel.proofs.KernelSizes.{slot-live, clause_at-slot}
use Rattle.q_kernel.proofs.kernel.Kernel.live.Goals as goal

pub returns : goal.returns
returns c =
    let a = c.self.inside.arena in
    rw (← c.self.view_is) (
      (λ h. let r = c.live.ensures.0 h in (r.0, slot-live a c.args.id r.0 r.1)),
      (λ h. c.live.ensures.1 (h.0, clause_at-slot a c.args.id h.0 h.1)),
    )
