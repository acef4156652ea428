-- Tests of the literals of a line, as programs.
use Rattle.std.specs.Prelude.{ℕ, Bool, cond, not, ◌&&◌, ◌||◌, nat_lt, List, [], ◌∷◌, length}
use Rattle.q_logic.specs.Prelude.{Literal, negation, Prefix, is_existential, has}
use Rattle.q_logic.specs.Prefixes.{place}

-- a literal of the owner whose negation is in T
abbrev pub is_other : Prefix → List Literal → Literal → Bool
is_other P T k = has (negation k) T && is_existential P k.var

-- a literal of the opponent whose negation is in T
abbrev pub is_turning : Prefix → List Literal → Literal → Bool
is_turning P T k = has (negation k) T && not (is_existential P k.var)

-- a literal that is no such one of the owner, or stands behind a place
abbrev pub is_after : Prefix → List Literal → ℕ → Literal → Bool
is_after P T at k = not (is_other P T k) || nat_lt at (place P k.var)

-- a literal of the owner whose negation is in T, but that is not in R
abbrev pub is_anew : Prefix → List Literal → List Literal → Literal → Bool
is_anew P T R k = is_other P T k && not (has k R)

-- a positive literal of the owner whose negation is in T
abbrev pub is_both : Prefix → List Literal → Literal → Bool
is_both P T k = not k.negative && is_other P T k

-- a literal of the opponent that is not in T
abbrev pub is_gone : Prefix → List Literal → Literal → Bool
is_gone P T k = not (has k T) && not (is_existential P k.var)

-- a literal of the owner that is not in T
abbrev pub is_away : Prefix → List Literal → Literal → Bool
is_away P T k = not (has k T) && is_existential P k.var

-- a literal of the owner, or one before a place
abbrev pub is_front : Prefix → ℕ → Literal → Bool
is_front P at k = is_existential P k.var || nat_lt (place P k.var) at

-- the smaller number
abbrev pub lesser : ℕ → ℕ → ℕ
lesser m n = cond (nat_lt m n) m n

-- the place of the outermost literal of the owner that is not in T, which is n where there is none
abbrev pub outermost_from : Prefix → List Literal → List Literal → ℕ → ℕ
outermost_from P T [] n = n
outermost_from P T (k ∷ R) n = outermost_from P T R (cond (is_away P T k) (lesser (place P k.var) n) n)

abbrev pub outermost : Prefix → List Literal → List Literal → ℕ
outermost P T R = outermost_from P T R (length P)
