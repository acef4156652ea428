-- A clause as the set of some literals: in literal order, each once.
use Rattle.std.specs.Prelude.{◌==◌, nat_lt, List, [], ◌∷◌, if◌then◌else◌}
use Rattle.q_logic.specs.Literals.{Literal, pack}
use Rattle.q_logic.specs.Formulas.{Clause}

-- a literal put into a clause at its place, once
abbrev pub insert : Literal → Clause → Clause
insert l [] = l ∷ []
insert l (k ∷ C) =
    if nat_lt (pack l) (pack k) then l ∷ k ∷ C
    else (if pack l == pack k then k ∷ C else k ∷ insert l C)

-- the set of the literals
abbrev pub clause_of : List Literal → Clause
clause_of [] = []
clause_of (l ∷ ls) = insert l (clause_of ls)
