-- A binary proof read byte by byte: what stands between two bytes, and what is still to come.
use Rattle.std.specs.Prelude.{◌≡◌, ℕ, ◌+◌, ◌-◌, ◌/◌, ◌%◌, ◌==◌, zero, suc, nat_le, Bool, List, [], ◌∷◌, length, take, if◌then◌else◌, Result, Ok, Err, Option, Some, None}
use Rattle.q_logic.specs.Prelude.{Literal, ProofStep}
use Rattle.q_log.specs.declared.error.LogError.{LogError}
use Rattle.q_log.specs.declared.error.LogError.TheVariants.{BadLine, Limit, NoMemory}
use Rattle.q_log.specs.Logs.{Parsed}
use Rattle.q_log.specs.Reading.{unless_refused}
use Rattle.q_binary.specs.BinaryProofs.{Entry, Place, between, within, Move, goes_on, ends_step, unfit, move, step_of_entry, parsed, at_end, past_limit}

-- the groups of a number of which the value is known
abbrev pub groups_of : ℕ → ℕ → List ℕ
groups_of zero n = []
groups_of (suc count) n = n % 128 ∷ groups_of count (n / 128)

-- the place, the number of the step there, how many bytes may still come, and the refusal, if one was given
pub record BinaryState : Type 0 where
  pub place : Place
  pub number : ℕ
  pub left : ℕ
  pub refused : Option LogError

abbrev pub start : ℕ → BinaryState
start limit = record { place = between; number = 1; left = limit; refused = None }

-- what these bytes would say, if they came to their end
abbrev pub open_to_come : BinaryState → List ℕ → Parsed
open_to_come r rest =
    if nat_le (length rest) r.left then parsed at_end r.number r.place rest
    else parsed past_limit r.number r.place (take r.left rest)

-- what is still to come where these bytes follow, and then the end
abbrev pub to_come : BinaryState → List ℕ → Parsed
to_come r rest = unless_refused r.refused (open_to_come r rest)

-- an answer to a byte, and the state behind it
pub record Transition : Type 0 where
  pub answer : Result (Option (ℕ × ProofStep)) LogError
  pub state : BinaryState

abbrev pub refuse : BinaryState → LogError → Transition
refuse r e = record { answer = Err e; state = record r { refused = Some e } }

abbrev pub moved : BinaryState → Move → Transition
moved r (goes_on p) = record { answer = Ok None; state = record r { place = p } }
moved r (ends_step e) = record { answer = Ok (Some (r.number, step_of_entry e)); state = record r { place = between; number = r.number + 1 } }
moved r unfit = refuse r (BadLine r.number)

abbrev pub open_transition : BinaryState → ℕ → Transition
open_transition r b =
    if r.left == 0 then refuse r (Limit r.number) else moved (record r { left = r.left - 1 }) (move r.place b)

abbrev pub transition_unless : Option LogError → BinaryState → Transition → Transition
transition_unless None r t = t
transition_unless (Some e) r t = record { answer = Err e; state = r }

-- the answer to a byte: a step exactly where the byte ends one, a bad step exactly where it does not fit, the limit exactly at the byte
-- past it, and a refusal again and again
abbrev pub transition : BinaryState → ℕ → Transition
transition r b = transition_unless r.refused r (open_transition r b)

-- an answer is that of this transition, but that memory may be wanting; what stands behind a refusal is the refusal alone
abbrev pub Answers : Result (Option (ℕ × ProofStep)) LogError → BinaryState → Transition → Type 0
Answers (Ok o) new t = (Ok o ≡ t.answer) × (new ≡ t.state)
Answers (Err NoMemory) new t = new.refused ≡ Some NoMemory
Answers (Err (BadLine n)) new t = (Err (BadLine n) ≡ t.answer) × (new.refused ≡ Some (BadLine n))
Answers (Err (Limit n)) new t = (Err (Limit n) ≡ t.answer) × (new.refused ≡ Some (Limit n))

-- the place, in the code
abbrev pub place_of : Option Bool → List Literal → List ℕ → Place
place_of None ls ds = between
place_of (Some d) ls ds = within d ls ds

-- what a byte does to the step that is being built, which has the number n
abbrev pub Builds : Result (Option (ℕ × ProofStep)) LogError → Move → Place → ℕ → Type 0
Builds (Ok None) m place n = m ≡ goes_on place
Builds (Ok (Some s)) m place n = (e : Entry) × (m ≡ ends_step e) × (s ≡ (n, step_of_entry e)) × (place ≡ between)
Builds (Err NoMemory) m place n = Unit {0}
Builds (Err (BadLine k)) m place n = (m ≡ unfit) × (k ≡ n)
Builds (Err (Limit k)) m place n = ⊥
