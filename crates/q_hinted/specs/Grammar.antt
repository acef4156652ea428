-- Logs of either profile, token by token. The steps are those of plain logs; in the second profile a proof part stands
-- behind the 0 of a step.
use Rattle.std.specs.Prelude.{ℕ, Bool, true, false, is_some, ◌==◌, nat_lt, if◌then◌else◌, Option, Some, None, ℤ, pos, negsuc}
use Rattle.q_logic.specs.declared.proof_part.ProofKind.TheVariants.{Nothing, Implied, Pivot, Reach}
use Rattle.q_logic.specs.declared.steps.Kind.{Kind}
use Rattle.q_logic.specs.declared.steps.Kind.TheVariants.{Add, Delete, Drop, Fresh, Remove}
use Rattle.q_logic.specs.Prelude.{ProofPart, kind_of, ProofStep}
use Rattle.q_logic.specs.ProofParts.{begun_part, with_group, with_hint}
use Rattle.q_text.specs.declared.tokens.Token.{Token}
use Rattle.q_text.specs.declared.tokens.TokenKind.{TokenKind}
use Rattle.q_text.specs.declared.tokens.TokenKind.TheVariants.{Number, P, Cnf, Qrat, E, A, D, U, R, Other}
use Rattle.q_log.specs.Grammar.{OpenStep, Move, ends_step, goes_on, unfit, move}
use Rattle.q_hinted.specs.declared.builder.Stage.{Stage}
use Rattle.q_hinted.specs.declared.builder.Stage.TheVariants as stage
use Rattle.q_hinted.specs.Parts.{no_part}

-- where a token stands: at the front of the log; in the header of the second profile, behind p or qrat; in or before a
-- step of the first profile, or of the second; or in the proof part of a step that began on this line
pub data Place : Type 0 where
  nowhere : Place
  format : Place
  version : Place
  plain : Option OpenStep → Place
  steps : Option OpenStep → Place
  proving : ℕ → ProofStep → Stage → ProofPart → Place

-- where a token leads: it ends a step, which is handed out with its line and its proof part if it has one; the log
-- goes on; or the token does not fit
pub data EntryMove : Type 0 where
  hands : ℕ → ProofStep → Option ProofPart → Place → EntryMove
  leads : Place → EntryMove
  misfit : EntryMove

-- a token of the first profile
abbrev pub in_plain : Move → EntryMove
in_plain (ends_step n s) = hands n s None (plain None)
in_plain (goes_on o) = leads (plain (Some o))
in_plain unfit = misfit

-- behind the 0 of a step: an addition has a proof, d and u the number of a clause and a proof, e and r have neither
abbrev pub behind_step : Kind → ℕ → ProofStep → EntryMove
behind_step Add n s = leads (proving n s stage.Kind (begun_part Nothing 0))
behind_step Delete n s = leads (proving n s stage.Number (begun_part Nothing 0))
behind_step Drop n s = leads (proving n s stage.Number (begun_part Nothing 0))
behind_step Fresh n s = hands n s (Some no_part) (steps None)
behind_step Remove n s = hands n s (Some no_part) (steps None)

-- a token of a step of the second profile
abbrev pub in_steps : Move → EntryMove
in_steps (ends_step n s) = behind_step (kind_of s) n s
in_steps (goes_on o) = leads (steps (Some o))
in_steps unfit = misfit

-- a 0 ends hints, the targets, or a proof by reach
abbrev pub with_zero : ℕ → ProofStep → ProofPart → Stage → EntryMove
with_zero n s t stage.Number = misfit
with_zero n s t stage.Kind = misfit
with_zero n s t stage.Hints = hands n s (Some t) (steps None)
with_zero n s t stage.Targets = hands n s (Some t) (steps None)
with_zero n s t stage.GroupHints = leads (proving n s stage.Targets t)
with_zero n s t stage.Zero = hands n s (Some t) (steps None)

-- the kind of a proof
abbrev pub kind_move : ℕ → ProofStep → ProofPart → ℕ → EntryMove
kind_move n s t v =
    if v == 1 then leads (proving n s stage.Hints (begun_part Implied t.number))
    else (if v == 2 then leads (proving n s stage.Targets (begun_part Pivot t.number))
    else (if v == 3 then leads (proving n s stage.Zero (begun_part Reach t.number))
    else misfit))

-- a positive number is the number of the step's clause, the kind of the proof, a hint or a target
abbrev pub with_number : ℕ → ProofStep → ProofPart → ℕ → Stage → EntryMove
with_number n s t v stage.Number = leads (proving n s stage.Kind (begun_part Nothing v))
with_number n s t v stage.Kind = kind_move n s t v
with_number n s t v stage.Hints = leads (proving n s stage.Hints (with_hint v t))
with_number n s t v stage.Targets = leads (proving n s stage.GroupHints (with_group v t))
with_number n s t v stage.GroupHints = leads (proving n s stage.GroupHints (with_hint v t))
with_number n s t v stage.Zero = misfit

-- a number has no sign, and is below 2^62
abbrev pub small_number : ℤ → Option ℕ
small_number (pos v) = if nat_lt v 4611686018427387904 then Some v else None
small_number (negsuc v) = None

abbrev pub number_in : TokenKind → Option ℕ
number_in (Number z) = small_number z
number_in P = None
number_in Cnf = None
number_in Qrat = None
number_in E = None
number_in A = None
number_in D = None
number_in U = None
number_in R = None
number_in Other = None

-- a token of a proof part: a number, or nothing that fits
abbrev pub part_move : ℕ → ProofStep → ProofPart → Stage → Option ℕ → EntryMove
part_move n s t g None = misfit
part_move n s t g (Some v) = if v == 0 then with_zero n s t g else with_number n s t v g

-- p opens the header of the second profile; any other token is one of the first
abbrev pub front_move : Token → TokenKind → EntryMove
front_move t P = leads format
front_move t (Number z) = in_plain (move None t)
front_move t Cnf = in_plain (move None t)
front_move t Qrat = in_plain (move None t)
front_move t E = in_plain (move None t)
front_move t A = in_plain (move None t)
front_move t D = in_plain (move None t)
front_move t U = in_plain (move None t)
front_move t R = in_plain (move None t)
front_move t Other = in_plain (move None t)

abbrev pub format_move : TokenKind → EntryMove
format_move Qrat = leads version
format_move (Number z) = misfit
format_move P = misfit
format_move Cnf = misfit
format_move E = misfit
format_move A = misfit
format_move D = misfit
format_move U = misfit
format_move R = misfit
format_move Other = misfit

abbrev pub profile_move : ℤ → EntryMove
profile_move (pos v) = if v == 2 then leads (steps None) else misfit
profile_move (negsuc v) = misfit

abbrev pub version_move : TokenKind → EntryMove
version_move (Number z) = profile_move z
version_move P = misfit
version_move Cnf = misfit
version_move Qrat = misfit
version_move E = misfit
version_move A = misfit
version_move D = misfit
version_move U = misfit
version_move R = misfit
version_move Other = misfit

abbrev pub place_move : Place → Token → EntryMove
place_move nowhere t = front_move t t.kind
place_move format t = format_move t.kind
place_move version t = version_move t.kind
place_move (plain o) t = in_plain (move o t)
place_move (steps o) t = in_steps (move o t)
place_move (proving n s g p) t = part_move n s p g (number_in t.kind)

-- the profile, as far as the tokens so far tell
abbrev pub profile_at : Place → ℕ
profile_at nowhere = 1
profile_at format = 2
profile_at version = 2
profile_at (plain o) = 1
profile_at (steps o) = 2
profile_at (proving n s g p) = 2

-- only the first token tells the profile
abbrev pub first_profile : TokenKind → ℕ
first_profile P = 2
first_profile (Number z) = 1
first_profile Cnf = 1
first_profile Qrat = 1
first_profile E = 1
first_profile A = 1
first_profile D = 1
first_profile U = 1
first_profile R = 1
first_profile Other = 1

abbrev pub profile_behind : Place → TokenKind → ℕ
profile_behind nowhere k = first_profile k
profile_behind format k = 2
profile_behind version k = 2
profile_behind (plain o) k = 1
profile_behind (steps o) k = 2
profile_behind (proving n s g p) k = 2

abbrev pub is_open_at : Place → Bool
is_open_at nowhere = false
is_open_at format = true
is_open_at version = true
is_open_at (plain o) = is_some o
is_open_at (steps o) = is_some o
is_open_at (proving n s g p) = true
