use Rattle.std.proofs.Common.{◌≡◌, sym, ◌∙◌, ap, Some, List, set}
use Rattle.std.proofs.lemmas.Option.{same_Some}
use Rattle.q_logic.specs.Prelude.{Literal}
use Rattle.q_arena.proofs.Dropped.{without-place}
use Rattle.q_arena.proofs.arena.Arena.drop_lit.Goals as goal

pub returns-clause-clauses : goal.returns-clause-clauses
returns-clause-clauses c = λ c' e.
    let same : c.lits.result.now ≡ c' = same_Some c.lits.result.now c' (sym c.lits.ensures.clause ∙ e) in
    let w = without-place c.lits.result.now c.place_of-at.result c.args.lit c.lits.ensures.ordered c.place_of-at.ensures.below c.place_of-at.ensures.there in
    rw (← same) (c.drop_at.ensures.clauses c.lits.result.now c.lits.ensures.clause
    ∙ ap (λ (p : List Literal). set c.args.self.now.clauses c.args.id (Some p)) w)
