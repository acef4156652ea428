-- The steps of a proof log, token by token. Additions, deletions (d) and drops of a universal literal
-- (u) are those of QRAT (Heule, Seidl, Biere 2014, 2017); e brings a fresh variable behind another,
-- and r removes a variable.
use Rattle.std.specs.Prelude.{ℕ, ◌+◌, ◌==◌, nat_lt, Bool, true, false, List, [], ◌∷◌, ◌++◌, length, if◌then◌else◌, Option, Some, None, ℤ, pos, negsuc}
use Rattle.q_logic.specs.declared.steps.Kind.{Kind}
use Rattle.q_logic.specs.declared.steps.Kind.TheVariants.{Add, Delete, Drop, Fresh, Remove}
use Rattle.q_logic.specs.Prelude.{Literal, ProofStep, step_of}
use Rattle.q_text.specs.declared.tokens.Token.{Token}
use Rattle.q_text.specs.declared.tokens.TokenKind.{TokenKind}
use Rattle.q_text.specs.declared.tokens.TokenKind.TheVariants.{Number, P, Cnf, Qrat, E, A, D, U, R, Other}

-- a step that has begun: the line of its first token, its kind and its literals so far
pub record OpenStep : Type 0 where
  pub line : ℕ
  pub kind : Kind
  pub lits : List Literal

-- where a token leads: it ends a step, the step goes on, or the token does not fit
pub data Move : Type 0 where
  ends_step : ℕ → ProofStep → Move
  goes_on : OpenStep → Move
  unfit : Move

-- a 0 may end the step here: a drop has a literal, e two variables and r one
abbrev pub is_whole : Kind → List Literal → Bool
is_whole Add ls = true
is_whole Delete ls = true
is_whole Drop ls = nat_lt 0 (length ls)
is_whole Fresh ls = length ls == 2
is_whole Remove ls = length ls == 1

-- one more literal may stand here: variables of e and r stand without sign
abbrev pub has_room : Kind → List Literal → Bool → Bool
has_room Add ls negative = true
has_room Delete ls negative = true
has_room Drop ls negative = true
has_room Fresh ls false = nat_lt (length ls) 2
has_room Fresh ls true = false
has_room Remove ls false = nat_lt (length ls) 1
has_room Remove ls true = false

abbrev pub with_literal : OpenStep → Literal → Move
with_literal o l =
    if has_room o.kind o.lits l.negative then goes_on (record { line = o.line; kind = o.kind; lits = o.lits ++ l ∷ [] }) else unfit

-- variables are at most 2147483647
abbrev pub if_small : ℕ → Move → Move
if_small v m = if nat_lt 2147483647 v then unfit else m

abbrev pub with_zero : OpenStep → Move
with_zero o = if is_whole o.kind o.lits then ends_step o.line (step_of o.kind o.lits) else unfit

abbrev pub with_number : OpenStep → ℤ → Move
with_number o (pos v) =
    if v == 0 then with_zero o
    else if_small v (with_literal o (record { var = v; negative = false }))
with_number o (negsuc v) = if_small (v + 1) (with_literal o (record { var = v + 1; negative = true }))

abbrev pub empty_step : ℕ → Kind → OpenStep
empty_step n k = record { line = n; kind = k; lits = [] }

-- the first token of a step
abbrev pub first_move : ℕ → TokenKind → Move
first_move n D = goes_on (empty_step n Delete)
first_move n U = goes_on (empty_step n Drop)
first_move n E = goes_on (empty_step n Fresh)
first_move n R = goes_on (empty_step n Remove)
first_move n (Number z) = with_number (empty_step n Add) z
first_move n P = unfit
first_move n Cnf = unfit
first_move n Qrat = unfit
first_move n A = unfit
first_move n Other = unfit

-- a later token
abbrev pub next_move : OpenStep → TokenKind → Move
next_move o (Number z) = with_number o z
next_move o P = unfit
next_move o Cnf = unfit
next_move o Qrat = unfit
next_move o E = unfit
next_move o A = unfit
next_move o D = unfit
next_move o U = unfit
next_move o R = unfit
next_move o Other = unfit

abbrev pub move : Option OpenStep → Token → Move
move None t = first_move t.line t.kind
move (Some o) t = next_move o t.kind
