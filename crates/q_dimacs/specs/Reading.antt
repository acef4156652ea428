-- What one token does to what has been read, and which offence it is otherwise.
use Rattle.std.specs.Prelude.{◌≡◌, ℕ, ◌+◌, ◌==◌, nat_lt, nat_le, Bool, true, false, List, [], ◌∷◌, ◌++◌, length, if◌then◌else◌, Result, Ok, Err, ℤ, pos, negsuc, Option, Some, None}
use Rattle.q_logic.specs.declared.limits.Limits.{Limits}
use Rattle.q_logic.specs.declared.formulas.Quant.{Quant}
use Rattle.q_logic.specs.declared.formulas.Quant.TheVariants.{Exists, Forall}
use Rattle.q_logic.specs.Prelude.{Literal, clause_of, is_bound}
use Rattle.q_text.specs.declared.tokens.TokenKind.{TokenKind}
use Rattle.q_text.specs.declared.tokens.TokenKind.TheVariants.{Number, P, Cnf, E, A}
use Rattle.q_dimacs.specs.declared.error.Cause.TheVariants.{BadHeader, BadToken, AboveHeader, BoundTwice, LateQuantifier, ClauseCount, Unended, Limit}
use Rattle.q_dimacs.specs.declared.builder.Place.{Place}
use Rattle.q_dimacs.specs.declared.builder.Place.TheVariants.{Problem, Format, Vars, Count, Outside, InSet, InClause}
use Rattle.q_dimacs.specs.Building.{Built}
use Rattle.q_dimacs.specs.Causes.{cause_number}

-- what the tokens so far have given: what stands next, the numbers of the header, how many literals were written, and the parts
-- of the formula
pub record Gathered : Type 0 where
  pub place : Place
  pub vars : ℕ
  pub count : ℕ
  pub lits : ℕ
  pub parts : Built

abbrev pub bad_header : ℕ
bad_header = cause_number BadHeader

abbrev pub bad_token : ℕ
bad_token = cause_number BadToken

abbrev pub above_header : ℕ
above_header = cause_number AboveHeader

abbrev pub bound_twice : ℕ
bound_twice = cause_number BoundTwice

abbrev pub late_quantifier : ℕ
late_quantifier = cause_number LateQuantifier

abbrev pub clause_count : ℕ
clause_count = cause_number ClauseCount

abbrev pub unended : ℕ
unended = cause_number Unended

abbrev pub limit : ℕ
limit = cause_number Limit

-- the header
abbrev pub problem : Gathered → TokenKind → Result Gathered ℕ
problem b P = Ok (record b { place = Format })
problem b k = Err bad_header

abbrev pub format : Gathered → TokenKind → Result Gathered ℕ
format b Cnf = Ok (record b { place = Vars })
format b k = Err bad_header

-- a number of the header, which has a limit
abbrev pub header_number : ℕ → TokenKind → Result ℕ ℕ
header_number most (Number (pos n)) = if nat_lt most n then Err limit else Ok n
header_number most k = Err bad_header

abbrev pub with_vars : Gathered → Result ℕ ℕ → Result Gathered ℕ
with_vars b (Ok n) = Ok (record b { place = Count; vars = n })
with_vars b (Err c) = Err c

abbrev pub vars_of : Limits → Gathered → TokenKind → Result Gathered ℕ
vars_of m b k = with_vars b (header_number m.vars k)

abbrev pub with_count : Gathered → Result ℕ ℕ → Result Gathered ℕ
with_count b (Ok n) = Ok (record b { place = Outside; count = n })
with_count b (Err c) = Err c

abbrev pub count_of : Limits → Gathered → TokenKind → Result Gathered ℕ
count_of m b k = with_count b (header_number m.clauses k)

-- a set
abbrev pub begin_set : Quant → Gathered → Result Gathered ℕ
begin_set q b = if nat_lt 0 (length b.parts.clauses) then Err late_quantifier else Ok (record b { place = InSet q })

abbrev pub bind : Quant → Built → ℕ → Built
bind q p v = record p { bounds = p.bounds ++ record { quant = q; var = v } ∷ [] }

abbrev pub in_set : Quant → Gathered → TokenKind → Result Gathered ℕ
in_set q b (Number (pos n)) =
    if n == 0 then Ok (record b { place = Outside })
    else (if nat_lt b.vars n then Err above_header
    else (if is_bound b.parts.bounds n then Err bound_twice
    else Ok (record b { parts = bind q b.parts n })))
in_set q b k = Err bad_token

-- a clause
abbrev pub end_clause : Gathered → Gathered
end_clause b = record b { place = Outside; parts = record { bounds = b.parts.bounds; clauses = b.parts.clauses ++ clause_of b.parts.pending ∷ []; pending = [] } }

abbrev pub with_literal : Built → Literal → Built
with_literal p l = record p { pending = p.pending ++ l ∷ [] }

abbrev pub literal : Limits → Gathered → ℕ → Bool → Result Gathered ℕ
literal m b n s =
    if nat_lt b.vars n then Err above_header
    else (if nat_le m.lits b.lits then Err limit
    else Ok (record b { place = InClause; lits = b.lits + 1; parts = with_literal b.parts (record { var = n; negative = s }) }))

abbrev pub number : Limits → Gathered → ℤ → Result Gathered ℕ
number m b (pos n) = if n == 0 then Ok (end_clause b) else literal m b n false
number m b (negsuc n) = literal m b (n + 1) true

abbrev pub in_clause : Limits → Gathered → TokenKind → Result Gathered ℕ
in_clause m b (Number z) = number m b z
in_clause m b k = Err bad_token

-- outside sets and clauses
abbrev pub outside : Limits → Gathered → TokenKind → Result Gathered ℕ
outside m b E = begin_set Exists b
outside m b A = begin_set Forall b
outside m b (Number z) = if nat_le b.count (length b.parts.clauses) then Err clause_count else number m b z
outside m b k = Err bad_token

abbrev pub at_place : Limits → Gathered → TokenKind → Place → Result Gathered ℕ
at_place m b k Problem = problem b k
at_place m b k Format = format b k
at_place m b k Vars = vars_of m b k
at_place m b k Count = count_of m b k
at_place m b k Outside = outside m b k
at_place m b k (InSet q) = in_set q b k
at_place m b k InClause = in_clause m b k

-- one token: what has been read with it, or the cause
abbrev pub step_of : Limits → Gathered → TokenKind → Result Gathered ℕ
step_of m b k = at_place m b k b.place

-- a literal may come next: inside a clause, or outside where clauses are still to come
abbrev pub literal_fits : Gathered → Place → Bool
literal_fits b Problem = false
literal_fits b Format = false
literal_fits b Vars = false
literal_fits b Count = false
literal_fits b Outside = nat_lt (length b.parts.clauses) b.count
literal_fits b (InSet q) = false
literal_fits b InClause = true

abbrev pub takes_literals : Gathered → Bool
takes_literals b = literal_fits b b.place

-- the cause at the end
abbrev pub end_at : Gathered → Place → Option ℕ
end_at b Problem = Some bad_header
end_at b Format = Some bad_header
end_at b Vars = Some bad_header
end_at b Count = Some bad_header
end_at b Outside = if nat_lt (length b.parts.clauses) b.count then Some clause_count else None
end_at b (InSet q) = Some unended
end_at b InClause = Some unended

abbrev pub end_of : Gathered → Option ℕ
end_of b = end_at b b.place

abbrev pub nothing_read : Gathered
nothing_read = record { place = Problem; vars = 0; count = 0; lits = 0; parts = record { bounds = []; clauses = []; pending = [] } }

-- outside clauses no literal waits
abbrev pub NoneWaits : Place → List Literal → Type 0
NoneWaits Problem ls = ls ≡ []
NoneWaits Format ls = ls ≡ []
NoneWaits Vars ls = ls ≡ []
NoneWaits Count ls = ls ≡ []
NoneWaits Outside ls = ls ≡ []
NoneWaits (InSet q) ls = ls ≡ []
NoneWaits InClause ls = Unit {0}
