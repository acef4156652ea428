use Rattle.std.proofs.Common.{sym, ◌∙◌}
use Rattle.q_kernel.proofs.PlaceLists.{empty-none}
use Rattle.q_kernel.proofs.SweepSteps.{first-none}
use Rattle.q_occ.specs.Places.{places_of}
use Rattle.q_kernel.proofs.kernel.Kernel.first.Goals as goal

pub returns-clause-none : goal.returns-clause-none
returns-clause-none c = rw (← c.self.view_is) (λ e. empty-none c.self.inside.occ c.self.inside.arena c.self.invariant.linked c.args.lit (first-none (places_of c.self.inside.occ c.args.lit) (sym c.first.ensures.first ∙ e)))
