-- A log of either profile read byte by byte: what stands between two bytes, and what is still to come.
use Rattle.std.specs.Prelude.{◌≡◌, ◌≤◌, ◌<◌, ℕ, ◌+◌, ◌-◌, ◌==◌, nat_le, List, [], ◌∷◌, ◌++◌, length, take, if◌then◌else◌, Result, Ok, Err, Option, Some, None}
use Rattle.q_text.specs.declared.tokens.Token.{Token}
use Rattle.q_text.specs.declared.tokens.Tokens.{Tokens}
use Rattle.q_text.specs.Texts.{line_from}
use Rattle.q_text.specs.Tokens.{after, all_handed, handed, line_of, begun}
use Rattle.q_text.specs.Tokens as tokens
use Rattle.q_log.specs.declared.error.LogError.{LogError}
use Rattle.q_log.specs.declared.error.LogError.TheVariants.{BadLine, Limit, NoMemory}
use Rattle.q_hinted.specs.Grammar.{Place, nowhere, EntryMove, hands, leads, misfit, place_move, profile_at, profile_behind}
use Rattle.q_hinted.specs.Logs.{Entry, Entries, stopped, finished, onto, parsed, at_end, past_limit}

-- the tokens so far, how many bytes may still come, the place, and the refusal, if one was given
pub record BothState : Type 0 where
  pub tokens : Tokens
  pub left : ℕ
  pub place : Place
  pub refused : Option LogError

abbrev pub start : ℕ → BothState
start limit = record { tokens = begun; left = limit; place = nowhere; refused = None }

-- what these bytes would say, if they came to their end
abbrev pub open_to_come : BothState → List ℕ → Entries
open_to_come r rest =
    if nat_le (length rest) r.left
    then parsed (at_end (line_from (line_of r.tokens) rest)) r.place (tokens.to_come r.tokens rest)
    else parsed (past_limit (line_from (line_of r.tokens) (take r.left rest))) r.place (all_handed r.tokens (take r.left rest))

abbrev pub unless_refused : Option LogError → Entries → Entries
unless_refused None o = o
unless_refused (Some e) o = stopped e

-- what is still to come where these bytes follow, and then the end
abbrev pub to_come : BothState → List ℕ → Entries
to_come r rest = unless_refused r.refused (open_to_come r rest)

-- an answer to a byte, and the state behind it
pub record Transition : Type 0 where
  pub answer : Result (Option Entry) LogError
  pub state : BothState

abbrev pub refuse : BothState → LogError → Transition
refuse r e = record { answer = Err e; state = record r { refused = Some e } }

abbrev pub moved : BothState → EntryMove → ℕ → Transition
moved r (hands n s t q) line = record { answer = Ok (Some (n, s, t)); state = record r { place = q } }
moved r (leads q) line = record { answer = Ok None; state = record r { place = q } }
moved r misfit line = refuse r (BadLine line)

abbrev pub token_transition : BothState → Option Token → Transition
token_transition r None = record { answer = Ok None; state = r }
token_transition r (Some t) = moved r (place_move r.place t) t.line

abbrev pub open_transition : BothState → ℕ → Transition
open_transition r b =
    if r.left == 0 then refuse r (Limit (line_of r.tokens))
    else token_transition (record r { tokens = after r.tokens b; left = r.left - 1 }) (handed r.tokens b)

abbrev pub transition_unless : Option LogError → BothState → Transition → Transition
transition_unless None r t = t
transition_unless (Some e) r t = record { answer = Err e; state = r }

-- the answer to a byte: an entry exactly where the byte ends one, a bad line exactly where it ends a token that does
-- not fit, the limit exactly at the byte past it, and a refusal again and again
abbrev pub transition : BothState → ℕ → Transition
transition r b = transition_unless r.refused r (open_transition r b)

-- the state behind some bytes
abbrev pub behind : BothState → List ℕ → BothState
behind r [] = r
behind r (b ∷ bs) = behind (transition r b).state bs

-- an answer is that of this transition, but that memory may be wanting; what stands behind a refusal is the refusal alone
abbrev pub Answers : Result (Option Entry) LogError → BothState → Transition → Type 0
Answers (Ok o) new t = (Ok o ≡ t.answer) × (new ≡ t.state)
Answers (Err NoMemory) new t = new.refused ≡ Some NoMemory
Answers (Err (BadLine n)) new t = (Err (BadLine n) ≡ t.answer) × (new.refused ≡ Some (BadLine n))
Answers (Err (Limit n)) new t = (Err (Limit n) ≡ t.answer) × (new.refused ≡ Some (Limit n))

-- what was to come is the answer, and then what is to come now
abbrev pub Leads : Result (Option Entry) LogError → Entries → Entries → Type 0
Leads (Ok None) before now = before ≡ now
Leads (Ok (Some e)) before now = before ≡ onto e now
Leads (Err NoMemory) before now = now ≡ stopped NoMemory
Leads (Err (BadLine n)) before now = (before ≡ stopped (BadLine n)) × (now ≡ stopped (BadLine n))
Leads (Err (Limit n)) before now = (before ≡ stopped (Limit n)) × (now ≡ stopped (Limit n))

-- the answer to some bytes at the front of the piece: what was to come where they came is the answer, and then what is to
-- come now. Behind them anything may follow.
abbrev pub Passes : Result (ℕ × Option Entry) LogError → BothState → BothState → List ℕ → Type 0
Passes (Ok (n, o)) old new piece = (rest : List ℕ) → Leads (Ok o) (to_come old (take n piece ++ rest)) (to_come new rest)
Passes (Err e) old new piece = (n : ℕ) × ((rest : List ℕ) → Leads (Err e) (to_come old (take n piece ++ rest)) (to_come new rest))

-- some bytes at the front of the piece are read, and end no step; the last of them may end a token, which is still to
-- be tried. Behind them anything may follow.
pub record Reads (old new : BothState) (piece : List ℕ) (count : ℕ) (token : Option Token) : Type 0 where
  pub within : count ≤ length piece
  pub unrefused : new.refused ≡ None
  pub left : new.left + count ≡ old.left
  pub state : behind old (take count piece) ≡ (token_transition new token).state
  pub leads : (rest : List ℕ) → Leads (token_transition new token).answer (to_come old (take count piece ++ rest)) (to_come (token_transition new token).state rest)

-- such bytes, at least one, or a refusal
abbrev pub Brings : Result (ℕ × Option Token) LogError → BothState → BothState → List ℕ → Type 0
Brings (Ok (n, o)) old new piece = (0 < n) × Reads old new piece n o
Brings (Err e) old new piece = (new.refused ≡ Some e) × (n : ℕ) × ((rest : List ℕ) → Leads (Err e) (to_come old (take n piece ++ rest)) (to_come new rest))

-- the answer to the end is all that was to come
abbrev pub Ends : Result (Option Entry) LogError → Entries → Type 0
Ends (Ok None) before = before ≡ finished
Ends (Ok (Some e)) before = before ≡ onto e finished
Ends (Err NoMemory) before = Unit {0}
Ends (Err (BadLine n)) before = before ≡ stopped (BadLine n)
Ends (Err (Limit n)) before = before ≡ stopped (Limit n)

-- the profile that the tokens so far tell
abbrev pub profile : BothState → ℕ
profile r = profile_at r.place

abbrev pub profile_of_token : Place → Option Token → ℕ
profile_of_token p None = profile_at p
profile_of_token p (Some t) = profile_behind p t.kind

abbrev pub open_profile : Option LogError → BothState → ℕ → ℕ
open_profile None r b = if r.left == 0 then profile r else profile_of_token r.place (handed r.tokens b)
open_profile (Some e) r b = profile r

-- the profile behind a byte: only the first token tells it
abbrev pub profile_after : BothState → ℕ → ℕ
profile_after r b = open_profile r.refused r b
