use Rattle.std.proofs.Common.{sym, ◌∙◌}
use Rattle.q_logic.specs.Prelude.{pack}
use Rattle.q_arena.specs.Prelude.{Has, list_at}
use Rattle.q_arena.proofs.ListNeighbours.{following-has}
use Rattle.q_occ.proofs.occ.Occ.next.Goals as goal

pub returns-clause-there : goal.returns-clause-there
returns-clause-there c = λ l p h e.
    let inside : Has (list_at c.self.inside.lists (pack l)) c.args.place = rw c.self.view_is h in
    rw (← c.self.view_is) (following-has c.args.place p (list_at c.self.inside.lists (pack l)) (sym (c.next.ensures (pack l) inside) ∙ e))
