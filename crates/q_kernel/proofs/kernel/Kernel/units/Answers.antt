use Rattle.std.proofs.Common.{sym, ◌∙◌, arith}
use Rattle.q_kernel.proofs.SlotLists.{units-none, units-some}
use Rattle.q_kernel.proofs.kernel.Kernel.units.Goals as goal

pub returns-clause-none : goal.returns-clause-none
returns-clause-none c = rw (← c.self.view_is) (λ e. units-none c.self.inside.arena.clauses (sym c.self.invariant.counted.units ∙ e))

pub returns-clause-some : goal.returns-clause-some
returns-clause-some c = rw (← c.self.view_is) (λ h. units-some c.self.inside.arena.clauses (omega (arith, h, c.self.invariant.counted.units)))
