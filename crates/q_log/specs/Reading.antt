-- A log read byte by byte: what stands between two bytes, and what is still to come.
use Rattle.std.specs.Prelude.{◌≡◌, ℕ, ◌-◌, ◌==◌, nat_le, List, [], ◌∷◌, ◌++◌, length, take, if◌then◌else◌, Result, Ok, Err, Option, Some, None, Bool, true, not, ◌&&◌}
use Rattle.q_logic.specs.declared.steps.Kind.{Kind}
use Rattle.q_logic.specs.declared.steps.Kind.TheVariants.{Add, Delete, Drop, Fresh, Remove}
use Rattle.q_logic.specs.Prelude.{Literal, ProofStep}
use Rattle.q_text.specs.declared.tokens.Token.{Token}
use Rattle.q_text.specs.declared.tokens.Tokens.{Tokens}
use Rattle.q_text.specs.Texts.{line_from}
use Rattle.q_text.specs.Tokens.{after, all_handed, handed, line_of, begun}
use Rattle.q_text.specs.Tokens as tokens
use Rattle.q_log.specs.declared.error.LogError.{LogError}
use Rattle.q_log.specs.declared.error.LogError.TheVariants.{BadLine, Limit, NoMemory}
use Rattle.q_log.specs.declared.builder.Begun.{Begun}
use Rattle.q_log.specs.Grammar.{OpenStep, Move, ends_step, goes_on, unfit, move, empty_step}
use Rattle.q_log.specs.Logs.{Parsed, stopped, finished, onto, parsed, at_end, past_limit}

-- the tokens so far, how many bytes may still come, the step that has begun, and the refusal, if one
-- was given
pub record LogState : Type 0 where
  pub tokens : Tokens
  pub left : ℕ
  pub begun : Option OpenStep
  pub refused : Option LogError

abbrev pub start : ℕ → LogState
start limit = record { tokens = begun; left = limit; begun = None; refused = None }

-- what these bytes would say, if they came to their end
abbrev pub open_to_come : LogState → List ℕ → Parsed
open_to_come r rest =
    if nat_le (length rest) r.left
    then parsed (at_end (line_from (line_of r.tokens) rest)) r.begun (tokens.to_come r.tokens rest)
    else parsed (past_limit (line_from (line_of r.tokens) (take r.left rest))) r.begun (all_handed r.tokens (take r.left rest))

abbrev pub unless_refused : Option LogError → Parsed → Parsed
unless_refused None o = o
unless_refused (Some e) o = stopped e

-- what is still to come where these bytes follow, and then the end
abbrev pub to_come : LogState → List ℕ → Parsed
to_come r rest = unless_refused r.refused (open_to_come r rest)

-- an answer to a byte, and the state behind it
pub record Transition : Type 0 where
  pub answer : Result (Option (ℕ × ProofStep)) LogError
  pub state : LogState

abbrev pub refuse : LogState → LogError → Transition
refuse r e = record { answer = Err e; state = record r { refused = Some e } }

abbrev pub moved : LogState → Move → ℕ → Transition
moved r (ends_step n s) line = record { answer = Ok (Some (n, s)); state = record r { begun = None } }
moved r (goes_on o) line = record { answer = Ok None; state = record r { begun = Some o } }
moved r unfit line = refuse r (BadLine line)

abbrev pub token_transition : LogState → Option Token → Transition
token_transition r None = record { answer = Ok None; state = r }
token_transition r (Some t) = moved r (move r.begun t) t.line

abbrev pub open_transition : LogState → ℕ → Transition
open_transition r b =
    if r.left == 0 then refuse r (Limit (line_of r.tokens))
    else token_transition (record r { tokens = after r.tokens b; left = r.left - 1 }) (handed r.tokens b)

abbrev pub transition_unless : Option LogError → LogState → Transition → Transition
transition_unless None r t = t
transition_unless (Some e) r t = record { answer = Err e; state = r }

-- the answer to a byte: a step exactly where the byte ends one, a bad line exactly where it ends a
-- token that does not fit, the limit exactly at the byte past it, and a refusal again and again
abbrev pub transition : LogState → ℕ → Transition
transition r b = transition_unless r.refused r (open_transition r b)

-- an answer is that of this transition, but that memory may be wanting; what stands behind a refusal is the
-- refusal alone
abbrev pub Answers : Result (Option (ℕ × ProofStep)) LogError → LogState → Transition → Type 0
Answers (Ok o) new t = (Ok o ≡ t.answer) × (new ≡ t.state)
Answers (Err NoMemory) new t = new.refused ≡ Some NoMemory
Answers (Err (BadLine n)) new t = (Err (BadLine n) ≡ t.answer) × (new.refused ≡ Some (BadLine n))
Answers (Err (Limit n)) new t = (Err (Limit n) ≡ t.answer) × (new.refused ≡ Some (Limit n))

-- what was to come is the answer, and then what is to come now
abbrev pub Leads : Result (Option (ℕ × ProofStep)) LogError → Parsed → Parsed → Type 0
Leads (Ok None) before now = before ≡ now
Leads (Ok (Some s)) before now = before ≡ onto s now
Leads (Err NoMemory) before now = now ≡ stopped NoMemory
Leads (Err (BadLine n)) before now = (before ≡ stopped (BadLine n)) × (now ≡ stopped (BadLine n))
Leads (Err (Limit n)) before now = (before ≡ stopped (Limit n)) × (now ≡ stopped (Limit n))

-- the answer to some bytes at the front of the piece: what was to come where they came is the answer, and then what is to
-- come now. Behind them anything may follow.
abbrev pub Passes : Result (ℕ × Option (ℕ × ProofStep)) LogError → LogState → LogState → List ℕ → Type 0
Passes (Ok (n, o)) old new piece = (rest : List ℕ) → Leads (Ok o) (to_come old (take n piece ++ rest)) (to_come new rest)
Passes (Err e) old new piece = (n : ℕ) × ((rest : List ℕ) → Leads (Err e) (to_come old (take n piece ++ rest)) (to_come new rest))

-- the answer to the end is all that was to come
abbrev pub Ends : Result (Option (ℕ × ProofStep)) LogError → Parsed → Type 0
Ends (Ok None) before = before ≡ finished
Ends (Ok (Some s)) before = before ≡ onto s finished
Ends (Err NoMemory) before = Unit {0}
Ends (Err (BadLine n)) before = before ≡ stopped (BadLine n)
Ends (Err (Limit n)) before = before ≡ stopped (Limit n)

-- the step that has begun, in the code
abbrev pub opened : Begun → List Literal → OpenStep
opened b ls = record { line = b.line; kind = b.kind; lits = ls }

abbrev pub open_of : Option Begun → List Literal → Option OpenStep
open_of None ls = None
open_of (Some b) ls = Some (opened b ls)

-- the variables of e and r stand without sign
abbrev pub all_positive : List Literal → Bool
all_positive [] = true
all_positive (l ∷ ls) = not l.negative && all_positive ls

abbrev pub are_plain : Kind → List Literal → Bool
are_plain Add ls = true
are_plain Delete ls = true
are_plain Drop ls = true
are_plain Fresh ls = all_positive ls
are_plain Remove ls = all_positive ls

abbrev pub is_plain : Option Begun → List Literal → Bool
is_plain None ls = true
is_plain (Some b) ls = are_plain b.kind ls

-- the answer to a token that makes no step whole
abbrev pub quiet : {X : Type 0} → {Y : Type 0} → Result X LogError → Result (Option Y) LogError
quiet (Ok x) = Ok None
quiet (Err e) = Err e

-- a letter fits only where no step has begun
abbrev pub unless_begun : Option OpenStep → Move → Move
unless_begun None m = m
unless_begun (Some o) m = unfit

-- where no step has begun, a number begins an addition
abbrev pub begun_or_added : Option OpenStep → ℕ → OpenStep
begun_or_added None line = empty_step line Add
begun_or_added (Some o) line = o

-- what a token does to the step that is being built
abbrev pub Builds : Result (Option (ℕ × ProofStep)) LogError → Move → Option Begun → List Literal → ℕ → Type 0
Builds (Ok (Some (n, s))) m begun lits line = (m ≡ ends_step n s) × (begun ≡ None)
Builds (Ok None) m begun lits line = (b : Begun) × (begun ≡ Some b) × (m ≡ goes_on (opened b lits))
Builds (Err NoMemory) m begun lits line = Unit {0}
Builds (Err (BadLine n)) m begun lits line = (m ≡ unfit) × (n ≡ line)
Builds (Err (Limit n)) m begun lits line = ⊥
