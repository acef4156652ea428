-- The formula of a whole text, or its first offence from the left.
use Rattle.std.specs.Prelude.{◌≤◌, ◌++◌, ◌≡◌, ℕ, nat_le, List, [], ◌∷◌, length, take, if◌then◌else◌, Result, Ok, Err, Option, Some, None}
use Rattle.q_logic.specs.declared.limits.Limits.{Limits}
use Rattle.q_logic.specs.Prelude.{PrenexFormula}
use Rattle.q_text.specs.declared.tokens.Token.{Token}
use Rattle.q_text.specs.Texts.{tokens_of, tokens_ended, line_after}
use Rattle.q_dimacs.specs.declared.error.ReadError.{ReadError}
use Rattle.q_dimacs.specs.declared.error.ReadError.TheVariants.{Refused}
use Rattle.q_dimacs.specs.Scanning.{Scan, HasRead}
use Rattle.q_dimacs.specs.Building.{formula_of}
use Rattle.q_dimacs.specs.Reading.{Gathered, step_of, end_of, nothing_read, limit}

abbrev pub at_end : ℕ → Gathered → Option ℕ → Result PrenexFormula ReadError
at_end n b (Some c) = Err (Refused n c)
at_end n b None = Ok (formula_of b.parts.bounds b.parts.clauses)

abbrev pub at_line : ℕ → Result Gathered ℕ → Result Gathered ReadError
at_line n (Ok b) = Ok b
at_line n (Err c) = Err (Refused n c)

abbrev pub after_token : Limits → Result Gathered ReadError → Token → Result Gathered ReadError
after_token m (Err e) t = Err e
after_token m (Ok b) t = at_line t.line (step_of m b t.kind)

-- what has been read with these tokens, or the first offence among them
abbrev pub tokens_read : Limits → Result Gathered ReadError → List Token → Result Gathered ReadError
tokens_read m r [] = r
tokens_read m r (t ∷ ts) = tokens_read m (after_token m r t) ts

abbrev pub at_last : ℕ → Result Gathered ReadError → Result PrenexFormula ReadError
at_last n (Err e) = Err e
at_last n (Ok b) = at_end n b (end_of b)

abbrev pub past_limit : ℕ → Result Gathered ReadError → Result PrenexFormula ReadError
past_limit n (Err e) = Err e
past_limit n (Ok b) = Err (Refused n limit)

-- the formula of the bytes, or the first offence
abbrev pub parse : Limits → List ℕ → Result PrenexFormula ReadError
parse m bytes =
    if nat_le (length bytes) m.bytes
    then at_last (line_after bytes) (tokens_read m (Ok nothing_read) (tokens_of bytes))
    else past_limit (line_after (take m.bytes bytes)) (tokens_read m (Ok nothing_read) (tokens_ended (take m.bytes bytes)))

abbrev pub closed_with : Limits → Gathered → Token → ℕ → Result PrenexFormula ReadError
closed_with m b t n = at_last n (at_line t.line (step_of m b t.kind))

-- the first offence of the bytes
abbrev pub Offence : Limits → List ℕ → ℕ → ℕ → Type 0
Offence m bytes line cause = parse m bytes ≡ Err (Refused line cause)

-- the reader has read on by this piece
abbrev pub ReadsOn : Scan → List ℕ → Scan → Type 0
ReadsOn old piece new = (m : Limits) → (bytes : List ℕ) → HasRead m bytes old → HasRead m (bytes ++ piece) new

-- what has been read and this piece keep the limit on bytes
abbrev pub StaysWithin : Scan → List ℕ → Type 0
StaysWithin old piece = (m : Limits) → (bytes : List ℕ) → HasRead m bytes old → length (bytes ++ piece) ≤ m.bytes

-- a refusal is the first offence of each text that begins with what has been read and this piece
abbrev pub RefusesBehind : {X : Type 0} → Result X ReadError → Scan → List ℕ → Type 0
RefusesBehind r old piece =
    (m : Limits) → (bytes : List ℕ) → (rest : List ℕ) → (line : ℕ) → (cause : ℕ) → HasRead m bytes old → r ≡ Err (Refused line cause)
    → Offence m (bytes ++ (piece ++ rest)) line cause

-- a refusal is the first offence of what has been read
abbrev pub RefusesAll : {X : Type 0} → Result X ReadError → Scan → Type 0
RefusesAll r s =
    (m : Limits) → (bytes : List ℕ) → (line : ℕ) → (cause : ℕ) → HasRead m bytes s → r ≡ Err (Refused line cause) → Offence m bytes line cause
