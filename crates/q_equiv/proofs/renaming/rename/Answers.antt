use Rattle.std.proofs.Common.{◌≡◌, [], ◌∷◌, map, refl, ◌∙◌, ap}
use Rattle.std.proofs.lemmas.List.Filters.{dedup_is}
use Rattle.q_logic.specs.Prelude.{Literal, Clause, insert, clause_of, renamed, renamed_literal}
use Rattle.q_logic.proofs.SortedSets.{dedup-sorted}
use Rattle.q_equiv.proofs.renaming.rename.Goals as goal

renamed-is : (keep gone : Literal) (C : Clause) → clause_of (map (renamed_literal keep gone) C) ≡ renamed keep gone C
renamed-is keep gone [] = refl
renamed-is keep gone (k ∷ C) = ap (insert (renamed_literal keep gone k)) (renamed-is keep gone C)

pub returns-clause-clause : goal.returns-clause-clause
returns-clause-clause c =
    let is = dedup_is _ _ _ c.dedup.ensures.filtered in
    is ∙ dedup-sorted c.rename_each.new.buffer.items c.sort_unstable.new.self.items c.sort_unstable.ensures.permutation c.sort_unstable.ensures.sorted
    ∙ (ap clause_of c.rename_each.ensures.lits ∙ renamed-is c.args.keep c.args.gone c.args.clause.now)
