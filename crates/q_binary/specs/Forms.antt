-- A proof is a log of either profile or a binary proof, as its first bytes tell. What a binary proof says are steps without proof parts.
use Rattle.std.specs.Prelude.{◌≡◌, ◌<◌, ℕ, ◌+◌, ◌==◌, ◌&&◌, ◌||◌, not, Bool, false, List, [], ◌∷◌, ◌++◌, take, if◌then◌else◌, Option, None, Some, Result, Ok, Err}
use Rattle.q_logic.specs.Prelude.{ProofStep}
use Rattle.q_text.specs.Words.{is_separator}
use Rattle.q_log.specs.declared.error.LogError.{LogError}
use Rattle.q_log.specs.declared.error.LogError.TheVariants.{BadLine, Limit, NoMemory}
use Rattle.q_hinted.specs.Logs.{Entry, Entries, plain_entries, plain_entry, read_entries, stopped}
use Rattle.q_hinted.specs.Reading.{BothState}
use Rattle.q_hinted.specs.Reading as reading
use Rattle.q_binary.specs.BinaryProofs as binary
use Rattle.q_binary.specs.Reading.{BinaryState}
use Rattle.q_binary.specs.Reading as bytes
use Rattle.q_binary.specs.declared.form.Form.{Form}
use Rattle.q_binary.specs.declared.form.Form.TheVariants.{Unread, Begun, Text, Binary}

-- behind a `d`, a byte that divides no words
abbrev pub goes_on_binary : List ℕ → Bool
goes_on_binary [] = false
goes_on_binary (b ∷ bs) = not (is_separator b)

-- no log begins with `a`, nor with `d` and a byte that divides no words
abbrev pub begins_binary : List ℕ → Bool
begins_binary [] = false
begins_binary (b ∷ bs) = b == 97 || (b == 100 && goes_on_binary bs)

abbrev pub is_binary : Bool → List ℕ → Bool
is_binary forced proof = forced || begins_binary proof

-- what the bytes of a proof say under a limit on their number; `forced` reads what can be either as a binary proof
abbrev pub read_proof : Bool → ℕ → List ℕ → Entries
read_proof forced limit proof =
    if is_binary forced proof then plain_entries (binary.read limit proof) else read_entries limit proof

-- a proof of which some bytes are read: as a log, as a binary proof, and which of both it is
pub record ProofState : Type 0 where
  pub text : BothState
  pub binary : BinaryState
  pub form : Form

abbrev pub by_form : Form → List ℕ → Entries → Entries → Entries
by_form Unread rest text bin = if begins_binary rest then bin else text
by_form Begun rest text bin = if goes_on_binary rest then bin else text
by_form Text rest text bin = text
by_form Binary rest text bin = bin

-- what is still to come where these bytes follow, and then the end
abbrev pub to_come : ProofState → List ℕ → Entries
to_come p rest = by_form p.form rest (reading.to_come p.text rest) (plain_entries (bytes.to_come p.binary rest))

-- how many bytes may still come
abbrev pub left_by : Form → ℕ → ℕ → ℕ
left_by Unread text bin = text
left_by Begun text bin = text
left_by Text text bin = text
left_by Binary text bin = bin

abbrev pub left_of : ProofState → ℕ
left_of p = left_by p.form p.text.left p.binary.left

-- as long as the form isn't known, both readers stand at the same place
abbrev pub AreBoth : Form → BothState → BinaryState → Type 0
AreBoth Unread t b = (limit : ℕ) × (0 < limit) × (t ≡ reading.start limit) × (b ≡ bytes.start limit)
AreBoth Begun t b = (t.left ≡ b.left)
AreBoth Text t b = Unit {0}
AreBoth Binary t b = Unit {0}

-- the answer to some bytes at the front of the piece: what was to come where they came is the answer, and then what is to come now;
-- behind a refusal nothing is asked, and memory may be wanting at any time
abbrev pub IsStop : LogError → Entries → Type 0
IsStop NoMemory before = Unit {0}
IsStop (BadLine n) before = before ≡ stopped (BadLine n)
IsStop (Limit n) before = before ≡ stopped (Limit n)

abbrev pub Passes : Result (ℕ × Option Entry) LogError → ProofState → ProofState → List ℕ → Type 0
Passes (Ok (n, o)) old new piece = (rest : List ℕ) → reading.Leads (Ok o) (to_come old (take n piece ++ rest)) (to_come new rest)
Passes (Err e) old new piece = (rest : List ℕ) → IsStop e (to_come old (piece ++ rest))

-- a step without a proof part, if there is one
abbrev pub as_entry : Option (ℕ × ProofStep) → Option Entry
as_entry None = None
as_entry (Some s) = Some (plain_entry s)

-- an answer to one byte
abbrev pub IsOfOne : Result (Option (ℕ × ProofStep)) LogError → Result (ℕ × Option Entry) LogError → Type 0
IsOfOne (Ok o) result = result ≡ Ok (1, as_entry o)
IsOfOne (Err e) result = result ≡ Err e

-- the answer to the end
abbrev pub IsOfEnd : Result (Option (ℕ × ProofStep)) LogError → Result (Option Entry) LogError → Type 0
IsOfEnd (Ok o) result = result ≡ Ok (as_entry o)
IsOfEnd (Err e) result = result ≡ Err e

-- the answer to a `d` as the first byte
abbrev pub Begins : Result (ℕ × Option Entry) LogError → ProofState → ProofState → Type 0
Begins (Ok r) old new =
    (r ≡ (1, None)) × (left_of new + 1 ≡ left_of old) × ((rest : List ℕ) → to_come old (100 ∷ rest) ≡ to_come new rest)
Begins (Err e) old new = e ≡ NoMemory
