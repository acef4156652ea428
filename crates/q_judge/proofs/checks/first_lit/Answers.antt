use Rattle.std.proofs.Common.{◌≡◌, List, [], ◌∷◌, slice_get, refl, ◌∙◌}
use Rattle.q_logic.specs.Prelude.{Literal, first_of}
use Rattle.q_judge.proofs.checks.first_lit.Goals as goal

first : (ls : List Literal) → slice_get ls 0 ≡ first_of ls
first [] = refl
first (l ∷ ls) = refl

pub returns : goal.returns
returns c = c.copied.ensures ∙ c.first.ensures.value ∙ first c.args.lits.now
