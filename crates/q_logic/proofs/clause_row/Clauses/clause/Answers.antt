use Rattle.std.proofs.Common.{ap, length, slice_get, Some, subst, ◌≡◌}
use Rattle.q_logic.specs.Prelude.{Matrix}
use Rattle.q_logic.proofs.ClauseBounds.{length-clauses_between, slice_get-clauses_between}
use Rattle.q_logic.proofs.clause_row.Clauses.clause.Goals as goal

pub bounds-start-requires-clause-at : goal.bounds-start-requires-clause-at
bounds-start-requires-clause-at c =
    let e = ap (λ (X : Matrix). length X) c.self.view_is in
    let l = length-clauses_between c.self.inside.lits.items 0 c.self.inside.ends.items in
    rw (c.deref.ensures.value, ← l, e) c.requires

pub returns : goal.returns
returns c =
    let e = ap (λ (X : Matrix). length X) c.self.view_is in
    let l = length-clauses_between c.self.inside.lits.items 0 c.self.inside.ends.items in
    let h = rw (← e, l) at c.requires in
    rw (← c.self.view_is, c.deref-2.ensures.value, c.bounds-start.ensures.start, c.bounds-start.ensures.end, c.deref.ensures.value) (slice_get-clauses_between c.self.inside.lits.items 0 c.self.inside.ends.items c.args.at h)
