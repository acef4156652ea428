use Rattle.std.proofs.Common.{sym, ◌∙◌, ℕ}
use Rattle.q_logic.specs.Prelude.{live, occurs}
use Rattle.q_kernel.specs.Listing.{is_listed}
use Rattle.q_kernel.proofs.GroupChanges.{uses-same}
use Rattle.q_kernel.proofs.VariableCounts.{none_idle-occurring}
use Rattle.q_kernel.proofs.SweepSteps.{first-none}
use Rattle.q_kernel.proofs.KernelInvariant.{listed-occurs}
use Rattle.q_kernel.proofs.kernel.Kernel.first_idle.Goals as goal

pub returns-clause-some : goal.returns-clause-some
returns-clause-some c = rw (← c.self.view_is) (λ v e.
    let k = c.self.inside in
    let r = (c.self.invariant.grouped.idle v).0 (c.first_idle.ensures.there v e) in
    (r.0, sym (listed-occurs k.occ k.arena c.self.invariant.linked v) ∙ r.1))

pub returns-clause-none : goal.returns-clause-none
returns-clause-none c = rw (← c.self.view_is) (λ e.
    let k = c.self.inside in
    let u = uses-same k.uses k.prefix.bounds (is_listed k.occ) (λ (v : ℕ). occurs v (live k.arena.clauses)) (λ v b. sym (listed-occurs k.occ k.arena c.self.invariant.linked v)) c.self.invariant.grouped in
    none_idle-occurring k.uses k.prefix.bounds (live k.arena.clauses) u (first-none k.uses.idle (sym c.first_idle.ensures.first ∙ e)))
