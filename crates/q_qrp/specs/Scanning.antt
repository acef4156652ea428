-- The reader over bytes: what one byte does, what many do, and what comes of it at the end.
use Rattle.std.specs.Prelude.{◌≡◌, ℕ, ◌+◌, ◌≤◌, ◌<◌, ◌^◌, nat_le, Bool, true, false, List, [], ◌∷◌, length, if◌then◌else◌, Result, Ok, Err, Option, Some, None}
use Rattle.q_text.specs.Tokens.{line_of}
use Rattle.q_qrp.specs.declared.words.Spoken.{Spoken}
use Rattle.q_qrp.specs.declared.words.Words.{Words}
use Rattle.q_qrp.specs.declared.trace.Verdict.{Verdict}
use Rattle.q_qrp.specs.declared.builder.Place.{Place}
use Rattle.q_qrp.specs.declared.builder.Place.TheVariants.{Problem, Format, First, Second, Sets, InSet, Lines, Literals, After, Answer, Done}
use Rattle.q_qrp.specs.declared.error.TraceError.{TraceError}
use Rattle.q_qrp.specs.declared.error.TraceError.TheVariants.{Refused, NoMemory}
use Rattle.q_qrp.specs.declared.reader.Standing.{Standing}
use Rattle.q_qrp.specs.declared.reader.Standing.TheVariants.{Reading, Finished, Stopped}
use Rattle.q_qrp.specs.Words.{handed, handed_at_end, after, begun}
use Rattle.q_qrp.specs.Lines.{Proof, lines_of}
use Rattle.q_qrp.specs.Causes.{no_verdict, limit}
use Rattle.q_qrp.specs.Reading.{Gathered, step_of, nothing_read}

-- what has been read: how many bytes, at most so many, and what their words gave
pub record Scan : Type 0 where
  pub most : ℕ
  pub words : Words
  pub taken : ℕ
  pub builder : Gathered
  pub standing : Standing

abbrev pub is_done : Place → Bool
is_done Problem = false
is_done Format = false
is_done First = false
is_done Second = false
is_done Sets = false
is_done InSet = false
is_done Lines = false
is_done Literals = false
is_done After = false
is_done Answer = false
is_done (Done v n) = true

abbrev pub proof_at : Gathered → Place → Option Proof
proof_at g Problem = None
proof_at g Format = None
proof_at g First = None
proof_at g Second = None
proof_at g Sets = None
proof_at g InSet = None
proof_at g Lines = None
proof_at g Literals = None
proof_at g After = None
proof_at g Answer = None
proof_at g (Done v n) = Some (record { lines = lines_of g.rows g.terms; verdict = v; place = n })

-- the lines and the verdict, where the verdict has come
abbrev pub proof_in : Gathered → Option Proof
proof_in g = proof_at g g.place

abbrev pub standing_at : Place → Standing
standing_at p = if is_done p then Finished else Reading

abbrev pub stepped : Scan → ℕ → Result Gathered ℕ → Scan
stepped s n (Ok b) = record { most = s.most; words = s.words; taken = s.taken; builder = b; standing = standing_at b.place }
stepped s n (Err c) = record s { standing = Stopped (Refused n c) }

abbrev pub word_step : Scan → Option Spoken → Scan
word_step s None = s
word_step s (Some w) = stepped s w.token.line (step_of s.builder w)

abbrev pub byte_at : Scan → ℕ → Standing → Scan
byte_at s b (Stopped e) = s
byte_at s b Finished = s
byte_at s b Reading =
    if nat_le s.most s.taken then record s { standing = Stopped (Refused (line_of s.words.tokens) limit) }
    else word_step (record s { words = after s.words b; taken = s.taken + 1 }) (handed s.words b)

-- one more byte
abbrev pub byte_step : Scan → ℕ → Scan
byte_step s b = byte_at s b s.standing

abbrev pub fed : Scan → List ℕ → Scan
fed s [] = s
fed s (b ∷ bs) = fed (byte_step s b) bs

abbrev pub start : ℕ → Scan
start most = record { most = most; words = begun; taken = 0; builder = nothing_read; standing = Reading }

-- the reader has read these bytes, in whatever pieces, and no offence stood in them
abbrev pub HasRead : ℕ → List ℕ → Scan → Type 0
HasRead most bytes s = s ≡ fed (start most) bytes

abbrev pub whole : ℕ → Option Proof → Result Proof TraceError
whole n (Some p) = Ok p
whole n None = Err (Refused n no_verdict)

abbrev pub ended_at : Scan → Standing → Result Proof TraceError
ended_at s (Stopped e) = Err e
ended_at s Finished = whole (line_of s.words.tokens) (proof_in s.builder)
ended_at s Reading = whole (line_of s.words.tokens) (proof_in s.builder)

abbrev pub ended : Scan → Result Proof TraceError
ended s = ended_at s s.standing

abbrev pub outcome_at : Scan → Standing → Result Proof TraceError
outcome_at s (Stopped e) = Err e
outcome_at s Finished = whole (line_of s.words.tokens) (proof_in s.builder)
outcome_at s Reading = ended (word_step s (handed_at_end s.words))

-- what comes of it if nothing follows
abbrev pub outcome : Scan → Result Proof TraceError
outcome s = outcome_at s s.standing

-- the answer is the outcome, unless memory ran out
abbrev pub FailsAs : TraceError → Result Proof TraceError → Type 0
FailsAs (Refused n c) r = r ≡ Err (Refused n c)
FailsAs NoMemory r = Unit {0}

abbrev pub Answers : Result Proof TraceError → Result Proof TraceError → Type 0
Answers (Ok f) r = r ≡ Ok f
Answers (Err e) r = FailsAs e r

-- what feeding answers: the same as feeding all of the bytes
abbrev pub FeedFails : TraceError → Scan → Scan → Type 0
FeedFails (Refused n c) all new = (all.standing ≡ Stopped (Refused n c)) × (new.standing ≡ Stopped (Refused n c))
FeedFails NoMemory all new = new.standing ≡ Stopped NoMemory

-- nothing has stopped the reader
abbrev pub goes_on : Standing → Bool
goes_on (Stopped e) = false
goes_on Finished = true
goes_on Reading = true

-- the verdict has been read
abbrev pub has_finished : Standing → Bool
has_finished (Stopped e) = false
has_finished Finished = true
has_finished Reading = false

abbrev pub Feeds : {X : Type 0} → Result X TraceError → Scan → Scan → Type 0
Feeds (Ok x) all new = (new ≡ all) × (goes_on all.standing ≡ true)
Feeds (Err e) all new = FeedFails e all new

pub record IsSound (s : Scan) : Type 0 where
  pub bytes : s.most ≤ 2 ^ 62
  pub taken : s.taken ≤ s.most
  pub line : line_of s.words.tokens ≤ s.taken + 1
