-- The proof of a whole text, or its first offence from the left.
use Rattle.std.specs.Prelude.{◌++◌, ◌≡◌, ◌≤◌, ℕ, nat_le, List, [], ◌∷◌, length, take, if◌then◌else◌, Result, Ok, Err, Option, Some, None}
use Rattle.q_text.specs.Texts.{line_after}
use Rattle.q_qrp.specs.declared.words.Spoken.{Spoken}
use Rattle.q_qrp.specs.declared.error.TraceError.{TraceError}
use Rattle.q_qrp.specs.declared.error.TraceError.TheVariants.{Refused}
use Rattle.q_qrp.specs.Words.{words_of, words_ended}
use Rattle.q_qrp.specs.Lines.{Proof}
use Rattle.q_qrp.specs.Causes.{no_verdict, limit}
use Rattle.q_qrp.specs.Reading.{Gathered, step_of, nothing_read}
use Rattle.q_qrp.specs.Scanning.{Scan, HasRead, proof_in}

abbrev pub at_line : ℕ → Result Gathered ℕ → Result Gathered TraceError
at_line n (Ok b) = Ok b
at_line n (Err c) = Err (Refused n c)

abbrev pub after_word : Result Gathered TraceError → Spoken → Result Gathered TraceError
after_word (Err e) w = Err e
after_word (Ok b) w = at_line w.token.line (step_of b w)

-- what has been read with these words, or the first offence among them
abbrev pub words_read : Result Gathered TraceError → List Spoken → Result Gathered TraceError
words_read r [] = r
words_read r (w ∷ ws) = words_read (after_word r w) ws

-- the proof, if the verdict has come; else the text ends on line n for this cause
abbrev pub proof_or : ℕ → ℕ → Option Proof → Result Proof TraceError
proof_or cause n (Some p) = Ok p
proof_or cause n None = Err (Refused n cause)

abbrev pub at_last : ℕ → ℕ → Result Gathered TraceError → Result Proof TraceError
at_last cause n (Err e) = Err e
at_last cause n (Ok b) = proof_or cause n (proof_in b)

-- the proof of the bytes under a limit on their number, or the first offence
abbrev pub parse : ℕ → List ℕ → Result Proof TraceError
parse most bytes =
    if nat_le (length bytes) most
    then at_last no_verdict (line_after bytes) (words_read (Ok nothing_read) (words_of bytes))
    else at_last limit (line_after (take most bytes)) (words_read (Ok nothing_read) (words_ended (take most bytes)))

-- the first offence of the bytes
abbrev pub Offence : ℕ → List ℕ → ℕ → ℕ → Type 0
Offence most bytes line cause = parse most bytes ≡ Err (Refused line cause)

-- the bytes are a trace, and this is its proof
abbrev pub TraceOf : ℕ → List ℕ → Proof → Type 0
TraceOf most bytes p = parse most bytes ≡ Ok p

-- the reader has read on by this piece
abbrev pub ReadsOn : Scan → List ℕ → Scan → Type 0
ReadsOn old piece new = (most : ℕ) → (bytes : List ℕ) → HasRead most bytes old → HasRead most (bytes ++ piece) new

-- what has been read and this piece keep the limit on bytes
abbrev pub StaysWithin : Scan → List ℕ → Type 0
StaysWithin old piece = (most : ℕ) → (bytes : List ℕ) → HasRead most bytes old → length (bytes ++ piece) ≤ most

-- a refusal is the first offence of each text that begins with what has been read and this piece
abbrev pub RefusesBehind : {X : Type 0} → Result X TraceError → Scan → List ℕ → Type 0
RefusesBehind r old piece =
    (most : ℕ) → (bytes : List ℕ) → (rest : List ℕ) → (line : ℕ) → (cause : ℕ) → HasRead most bytes old → r ≡ Err (Refused line cause)
    → Offence most (bytes ++ (piece ++ rest)) line cause

-- what the reader has read is a trace, and this is its proof
abbrev pub ProofOf : Scan → Proof → Type 0
ProofOf s p = (most : ℕ) → (bytes : List ℕ) → HasRead most bytes s → TraceOf most bytes p

-- a refusal is the first offence of what has been read
abbrev pub RefusesAll : {X : Type 0} → Result X TraceError → Scan → Type 0
RefusesAll r s =
    (most : ℕ) → (bytes : List ℕ) → (line : ℕ) → (cause : ℕ) → HasRead most bytes s → r ≡ Err (Refused line cause) → Offence most bytes line cause
