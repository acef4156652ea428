-- What is known of clauses and of a formula, and what is said of a node by that.
use Rattle.std.specs.Prelude.{Bool, true, false, cond, [], ◌∷◌, Option, Some, None}
use Rattle.q_logic.specs.declared.verdict.Verdict.{Verdict}
use Rattle.q_logic.specs.declared.verdict.Verdict.TheVariants.{Lost, Won, Open}
use Rattle.q_logic.specs.Prelude.{Clause, Matrix, Prefix, Assignment}
use Rattle.q_logic.specs.Branches.{Claim, known_both, known_signed, literal_value, both_missing}

-- 1 where one side is 1, 0 where both are 0, and else open
abbrev pub known_either : Option Bool → Option Bool → Option Bool
known_either x y = known_signed true (known_both (known_signed true x) (known_signed true y))

-- the value of some of the literals, taken together
abbrev pub known_literals : Claim → Prefix → Assignment → Clause → Option Bool
known_literals q P A [] = Some false
known_literals q P A (k ∷ C) = known_either (literal_value q P A k) (known_literals q P A C)

-- the value of a clause; it is 1 where both signs are missing
abbrev pub known_clause : Claim → Prefix → Assignment → Clause → Option Bool
known_clause q P A C = cond (both_missing q C) (Some true) (known_literals q P A C)

-- the value of clauses, taken together
abbrev pub known_clauses : Claim → Prefix → Assignment → Matrix → Option Bool
known_clauses q P A [] = Some true
known_clauses q P A (C ∷ X) = known_both (known_clause q P A C) (known_clauses q P A X)

-- a node where the formula is 0 is lost, one where it is 1 is won
abbrev pub verdict_of : Option Bool → Verdict
verdict_of None = Open
verdict_of (Some false) = Lost
verdict_of (Some true) = Won
