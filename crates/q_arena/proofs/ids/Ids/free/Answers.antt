use Rattle.std.proofs.Common.{sym, ◌∙◌}
use Rattle.q_arena.proofs.Layouts.{first-none}
use Rattle.q_arena.proofs.ListNeighbours.{get-has}
use Rattle.q_arena.proofs.ids.Ids.free.Goals as goal

pub returns-in-Some : goal.returns-in-Some
returns-in-Some c = rw (← c.self.view_is) (get-has _ 0 c.in-Some.id (sym c.first.ensures ∙ c.in-Some.is))

pub returns-in-None : goal.returns-in-None
returns-in-None c = absurd (first-none _ (sym c.first.ensures ∙ c.in-None.is) (rw (← c.self.view_is) at c.requires))
