-- What one word does to what has been read of a trace, and which offence it is otherwise.
use Rattle.std.specs.Prelude.{◌≡◌, ◌<◌, ℕ, ◌+◌, ◌==◌, nat_lt, nat_le, List, [], ◌∷◌, ◌++◌, length, if◌then◌else◌, Bool, true, false, Result, Ok, Err, pos, negsuc, Option, Some, None}
use Rattle.std.specs.List.{AllByRecursion}
use Rattle.q_logic.specs.Prelude.{Literal, ArePairs}
use Rattle.q_text.specs.declared.tokens.TokenKind.{TokenKind}
use Rattle.q_text.specs.declared.tokens.TokenKind.TheVariants.{Number, P, Cnf, Qrat, E, A, D, U, R, Other}
use Rattle.q_qrp.specs.declared.words.Spoken.{Spoken}
use Rattle.q_qrp.specs.declared.trace.Row.{Row}
use Rattle.q_qrp.specs.declared.trace.Antecedents.{Antecedents}
use Rattle.q_qrp.specs.declared.trace.Antecedents.TheVariants.{Zero, One, Two}
use Rattle.q_qrp.specs.declared.trace.Verdict.{Verdict}
use Rattle.q_qrp.specs.declared.trace.Verdict.TheVariants.{Sat, Unsat, Unknown}
use Rattle.q_qrp.specs.declared.builder.Signed.{Signed}
use Rattle.q_qrp.specs.declared.builder.Place.{Place}
use Rattle.q_qrp.specs.declared.builder.Place.TheVariants.{Problem, Format, First, Second, Sets, InSet, Lines, Literals, After, Answer, Done}
use Rattle.q_qrp.specs.Words.{qrp_name, sat_name, unsat_name, unknown_name}
use Rattle.q_qrp.specs.Lines.{IsBefore}
use Rattle.q_qrp.specs.Causes.{bad_word, not_rising, limit}

-- what the words so far have given: what stands next, the lines that have ended, and the line that has begun
pub record Gathered : Type 0 where
  pub place : Place
  pub rows : List Row
  pub terms : List (List Literal)
  pub row : Row
  pub pending : List Literal

abbrev pub no_row : Row
no_row = record { id = 0; place = 0; antecedents = Zero }

abbrev pub nothing_read : Gathered
nothing_read = record { place = Problem; rows = []; terms = []; row = no_row; pending = [] }

-- a number with its sign, if it is at most 2147483647
abbrev pub if_small : Bool → ℕ → Result Signed ℕ
if_small s m = if nat_lt 2147483647 m then Err limit else Ok (record { negative = s; value = m })

abbrev pub number_in : TokenKind → Result Signed ℕ
number_in (Number (pos n)) = if_small false n
number_in (Number (negsuc n)) = if_small true (n + 1)
number_in P = Err bad_word
number_in Cnf = Err bad_word
number_in Qrat = Err bad_word
number_in E = Err bad_word
number_in A = Err bad_word
number_in D = Err bad_word
number_in U = Err bad_word
number_in R = Err bad_word
number_in Other = Err bad_word

abbrev pub without_sign : Result Signed ℕ → Result ℕ ℕ
without_sign (Ok s) = if s.negative then Err bad_word else Ok s.value
without_sign (Err c) = Err c

-- a number without sign
abbrev pub plain_in : TokenKind → Result ℕ ℕ
plain_in k = without_sign (number_in k)

abbrev pub onward : {X : Type 0} → Result X ℕ → (X → Result Gathered ℕ) → Result Gathered ℕ
onward (Ok x) f = f x
onward (Err c) f = Err c

abbrev pub goes_to : Gathered → Place → Result Gathered ℕ
goes_to g p = Ok (record g { place = p })

-- the header
abbrev pub problem : Gathered → TokenKind → Result Gathered ℕ
problem g P = goes_to g Format
problem g k = Err bad_word

abbrev pub format : Gathered → ℕ → Result Gathered ℕ
format g name = if name == qrp_name then goes_to g First else Err bad_word

abbrev pub counted : Gathered → Place → TokenKind → Result Gathered ℕ
counted g p k = onward (plain_in k) (λ n. goes_to g p)

-- in a set
abbrev pub in_set : Gathered → TokenKind → Result Gathered ℕ
in_set g k = onward (plain_in k) (λ n. if n == 0 then goes_to g Sets else Ok g)

-- the number of a line
abbrev pub begun_line : Gathered → ℕ → ℕ → Result Gathered ℕ
begun_line g line n =
    if n == 0 then Err bad_word
    else (if nat_le n g.row.id then Err not_rising
    else Ok (record { place = Literals; rows = g.rows; terms = g.terms; row = record { id = n; place = line; antecedents = Zero }; pending = [] }))

abbrev pub number_of_line : Gathered → ℕ → TokenKind → Result Gathered ℕ
number_of_line g line k = onward (plain_in k) (begun_line g line)

-- between lines: the number of a line, or r
abbrev pub line_or_answer : Gathered → ℕ → TokenKind → Result Gathered ℕ
line_or_answer g line R = goes_to g Answer
line_or_answer g line k = number_of_line g line k

-- between sets: a set, or what stands between lines
abbrev pub set_or_line : Gathered → ℕ → TokenKind → Result Gathered ℕ
set_or_line g line E = goes_to g InSet
set_or_line g line A = goes_to g InSet
set_or_line g line k = line_or_answer g line k

abbrev pub with_literal : Gathered → Literal → Result Gathered ℕ
with_literal g l = Ok (record g { pending = g.pending ++ l ∷ [] })

-- a literal of a line, or the 0 behind them
abbrev pub literal : Gathered → Signed → Result Gathered ℕ
literal g s = if s.value == 0 then goes_to g After else with_literal g (record { var = s.value; negative = s.negative })

abbrev pub in_literals : Gathered → TokenKind → Result Gathered ℕ
in_literals g k = onward (number_in k) (literal g)

-- one more antecedent, of which there are at most two
abbrev pub one_more : Antecedents → ℕ → Option Antecedents
one_more Zero n = Some (One n)
one_more (One a) n = Some (Two a n)
one_more (Two a b) n = None

abbrev pub with_antecedents : Gathered → Option Antecedents → Result Gathered ℕ
with_antecedents g None = Err bad_word
with_antecedents g (Some a) = Ok (record g { row = record { id = g.row.id; place = g.row.place; antecedents = a } })

abbrev pub ended_line : Gathered → Gathered
ended_line g = record { place = Lines; rows = g.rows ++ g.row ∷ []; terms = g.terms ++ g.pending ∷ []; row = g.row; pending = g.pending }

-- an antecedent of a line, or the 0 behind them
abbrev pub antecedent : Gathered → ℕ → Result Gathered ℕ
antecedent g n = if n == 0 then Ok (ended_line g) else with_antecedents g (one_more g.row.antecedents n)

abbrev pub in_antecedents : Gathered → TokenKind → Result Gathered ℕ
in_antecedents g k = onward (plain_in k) (antecedent g)

abbrev pub verdict_named : ℕ → Option Verdict
verdict_named n = if n == sat_name then Some Sat else (if n == unsat_name then Some Unsat else (if n == unknown_name then Some Unknown else None))

abbrev pub answered : Gathered → ℕ → Option Verdict → Result Gathered ℕ
answered g line None = Err bad_word
answered g line (Some v) = goes_to g (Done v line)

abbrev pub step_at : Place → Gathered → Spoken → Result Gathered ℕ
step_at Problem g w = problem g w.token.kind
step_at Format g w = format g w.name
step_at First g w = counted g Second w.token.kind
step_at Second g w = counted g Sets w.token.kind
step_at Sets g w = set_or_line g w.token.line w.token.kind
step_at InSet g w = in_set g w.token.kind
step_at Lines g w = line_or_answer g w.token.line w.token.kind
step_at Literals g w = in_literals g w.token.kind
step_at After g w = in_antecedents g w.token.kind
step_at Answer g w = answered g w.token.line (verdict_named w.name)
step_at (Done v n) g w = Ok g

-- one more word
abbrev pub step_of : Gathered → Spoken → Result Gathered ℕ
step_of g w = step_at g.place g w

-- a line has begun and has not ended
abbrev pub is_open : Place → Bool
is_open Problem = false
is_open Format = false
is_open First = false
is_open Second = false
is_open Sets = false
is_open InSet = false
is_open Lines = false
is_open Literals = true
is_open After = true
is_open Answer = false
is_open (Done v n) = false

-- above the numbers of the lines that have ended, by that of the line that began last
abbrev pub above : Bool → ℕ → ℕ
above inside n = if inside then n else n + 1

pub record IsGathered (g : Gathered) : Type 0 where
  pub even : length g.rows ≡ length g.terms
  pub rising : ArePairs IsBefore g.rows
  pub below : AllByRecursion (λ r. r.id < above (is_open g.place) g.row.id) g.rows
