-- The reader over bytes: what one byte does, what many do, and what comes of it at the end.
use Rattle.std.specs.Prelude.{◌≡◌, ℕ, ◌+◌, ◌<◌, ◌≤◌, ◌^◌, nat_le, true, List, [], ◌∷◌, length, take, if◌then◌else◌, Result, Ok, Err, Option, Some, None}
use Rattle.q_logic.specs.declared.limits.Limits.{Limits}
use Rattle.q_logic.specs.Prelude.{PrenexFormula}
use Rattle.q_text.specs.declared.tokens.Token.{Token}
use Rattle.q_text.specs.declared.tokens.Tokens.{Tokens}
use Rattle.q_text.specs.Tokens.{handed, after, token_in, kind_in, begun, line_of}
use Rattle.q_text.specs.declared.runs.LiteralWord.{LiteralWord}
use Rattle.q_text.specs.Pieces.{Goes, behind_literal, behind_zero, literal_token, zero_token}
use Rattle.q_dimacs.specs.declared.builder.Place.TheVariants.{InClause}
use Rattle.q_dimacs.specs.declared.error.ReadError.{ReadError}
use Rattle.q_dimacs.specs.declared.error.ReadError.TheVariants.{Refused, NoMemory}
use Rattle.q_dimacs.specs.declared.reader.Standing.{Standing}
use Rattle.q_dimacs.specs.declared.reader.Standing.TheVariants.{Reading, Stopped}
use Rattle.q_dimacs.specs.Building.{formula_of}
use Rattle.q_dimacs.specs.Reading.{Gathered, step_of, end_of, takes_literals, nothing_read, limit, NoneWaits}

pub record Scan : Type 0 where
  pub limits : Limits
  pub tokens : Tokens
  pub taken : ℕ
  pub builder : Gathered
  pub standing : Standing

abbrev pub stepped : Scan → ℕ → Result Gathered ℕ → Scan
stepped s n (Ok b) = record s { builder = b }
stepped s n (Err c) = record s { standing = Stopped (Refused n c) }

abbrev pub token_step : Scan → Option Token → Scan
token_step s None = s
token_step s (Some t) = stepped s t.line (step_of s.limits s.builder t.kind)

abbrev pub byte_at : Scan → ℕ → Standing → Scan
byte_at s b (Stopped e) = s
byte_at s b Reading =
    if nat_le s.limits.bytes s.taken then record s { standing = Stopped (Refused s.tokens.line limit) }
    else token_step (record s { tokens = after s.tokens b; taken = s.taken + 1 }) (handed s.tokens b)

-- one more byte
abbrev pub byte_step : Scan → ℕ → Scan
byte_step s b = byte_at s b s.standing

abbrev pub fed : Scan → List ℕ → Scan
fed s [] = s
fed s (b ∷ bs) = fed (byte_step s b) bs

abbrev pub start : Limits → Scan
start m = record { limits = m; tokens = begun; taken = 0; builder = nothing_read; standing = Reading }

-- the reader has read these bytes, in whatever pieces, and no offence stood in them
abbrev pub HasRead : Limits → List ℕ → Scan → Type 0
HasRead m bytes s = s ≡ fed (start m) bytes

abbrev pub whole : Scan → Option ℕ → Result PrenexFormula ReadError
whole s (Some c) = Err (Refused s.tokens.line c)
whole s None = Ok (formula_of s.builder.parts.bounds s.builder.parts.clauses)

abbrev pub ended_at : Scan → Standing → Result PrenexFormula ReadError
ended_at s (Stopped e) = Err e
ended_at s Reading = whole s (end_of s.builder)

abbrev pub ended : Scan → Result PrenexFormula ReadError
ended s = ended_at s s.standing

abbrev pub outcome_at : Scan → Standing → Result PrenexFormula ReadError
outcome_at s (Stopped e) = Err e
outcome_at s Reading = ended (token_step s (token_in (kind_in s.tokens.shape) s.tokens.line))

-- what comes of it if nothing follows
abbrev pub outcome : Scan → Result PrenexFormula ReadError
outcome s = outcome_at s s.standing

-- the answer is the outcome, unless memory ran out
abbrev pub FailsAs : ReadError → Result PrenexFormula ReadError → Type 0
FailsAs (Refused n c) r = r ≡ Err (Refused n c)
FailsAs NoMemory r = Unit {0}

abbrev pub Answers : Result PrenexFormula ReadError → Result PrenexFormula ReadError → Type 0
Answers (Ok f) r = r ≡ Ok f
Answers (Err e) r = FailsAs e r

-- what feeding answers: the same as feeding all of the bytes
abbrev pub FeedFails : ReadError → Scan → Scan → Type 0
FeedFails (Refused n c) all new = (all.standing ≡ Stopped (Refused n c)) × (new.standing ≡ Stopped (Refused n c))
FeedFails NoMemory all new = new.standing ≡ Stopped NoMemory

abbrev pub Feeds : {X : Type 0} → Result X ReadError → Scan → Scan → Type 0
Feeds (Ok x) all new = (new ≡ all) × (all.standing ≡ Reading)
Feeds (Err e) all new = FeedFails e all new

-- what some bytes at the front of a piece do: the same as feeding them
abbrev pub Takes : Result ℕ ReadError → Scan → List ℕ → Scan → Type 0
Takes (Ok n) s piece new = (0 < n) × (n ≤ length piece) × Feeds (Ok n) (fed s (take n piece)) new
Takes (Err e) s piece new = (n : ℕ) × FeedFails e (fed s (take n piece)) new

-- the literal may come next, and stands at the front of the piece with a space behind it
pub record IsAhead (s : Scan) (piece : List ℕ) (w : LiteralWord) : Type 0 where
  pub fits : takes_literals s.builder ≡ true
  pub positive : 1 ≤ w.lit.var
  pub goes : Goes s.tokens (behind_literal s.tokens) piece (w.len + 1) (Some (literal_token w.lit (line_of s.tokens)))

-- a clause has begun, and a 0 and a LF stand at the front of the piece
pub record IsZeroAhead (s : Scan) (piece : List ℕ) : Type 0 where
  pub inside : s.builder.place ≡ InClause
  pub goes : Goes s.tokens (behind_zero s.tokens) piece 2 (Some (zero_token (line_of s.tokens)))

abbrev pub NoneWaitsIn : Standing → Gathered → Type 0
NoneWaitsIn Reading b = NoneWaits b.place b.parts.pending
NoneWaitsIn (Stopped e) b = Unit {0}

pub record IsSound (s : Scan) : Type 0 where
  pub bounded : s.limits.vars < 2 ^ 31
  pub bytes : s.limits.bytes ≤ 2 ^ 62
  pub taken : s.taken ≤ s.limits.bytes
  pub line : s.tokens.line ≤ s.taken + 1
  pub none_waits : NoneWaitsIn s.standing s.builder
