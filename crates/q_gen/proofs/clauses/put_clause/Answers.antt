use Rattle.std.proofs.Common.{◌≡◌, ◌∙◌, ap, List, ◌++◌}
use Rattle.q_logic.specs.Prelude.{Literal, clause_of}
use Rattle.q_gen.proofs.clauses.put_clause.Goals as goal

pub returns : goal.returns
returns c =
    let clause : c.deref.result.now ≡ clause_of c.args.drawn = c.deref.ensures.value ∙ (c.sort_clause.ensures ∙ ap clause_of (c.in_ok-extend_from_slice.ensures.items ∙ ap (λ (ls : List Literal). ls ++ c.args.drawn) c.clear.ensures.items)) in
    rw clause at c.push.ensures.ok
