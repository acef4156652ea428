-- What a whole log says: its steps with their lines, or its first offence.
use Rattle.std.specs.Prelude.{ℕ, nat_le, List, [], ◌∷◌, ◌++◌, length, take, if◌then◌else◌, Option, Some, None}
use Rattle.q_logic.specs.Prelude.{ProofStep}
use Rattle.q_text.specs.declared.tokens.Token.{Token}
use Rattle.q_text.specs.Texts.{tokens_of, tokens_ended, line_after}
use Rattle.q_log.specs.declared.error.LogError.{LogError}
use Rattle.q_log.specs.declared.error.LogError.TheVariants.{BadLine, Limit}
use Rattle.q_log.specs.Grammar.{OpenStep, Move, ends_step, goes_on, unfit, move}

-- the steps up to the first offence, and this offence
pub record Parsed : Type 0 where
  pub steps : List (ℕ × ProofStep)
  pub refused : Option LogError

abbrev pub stopped : LogError → Parsed
stopped e = record { steps = []; refused = Some e }

abbrev pub finished : Parsed
finished = record { steps = []; refused = None }

-- a step in front
abbrev pub onto : ℕ × ProofStep → Parsed → Parsed
onto s o = record { steps = s ∷ o.steps; refused = o.refused }

-- steps that were handed out already, in front
abbrev pub behind : List (ℕ × ProofStep) → Parsed → Parsed
behind steps o = record { steps = steps ++ o.steps; refused = o.refused }

abbrev pub follow : Move → ℕ → (Option OpenStep → Parsed) → Parsed
follow (ends_step n s) line later = onto (n, s) (later None)
follow (goes_on o) line later = later (Some o)
follow unfit line later = stopped (BadLine line)

-- what tokens say behind the beginning of a step or between steps; `last` tells what the end is there
abbrev pub parsed : (Option OpenStep → Option LogError) → Option OpenStep → List Token → Parsed
parsed last begun [] = record { steps = []; refused = last begun }
parsed last begun (t ∷ ts) = follow (move begun t) t.line (λ b. parsed last b ts)

-- the end, on line n, stands between steps
abbrev pub at_end : ℕ → Option OpenStep → Option LogError
at_end n None = None
at_end n (Some o) = Some (BadLine n)

-- the byte past the limit, on line n, ends no token
abbrev pub past_limit : ℕ → Option OpenStep → Option LogError
past_limit n begun = Some (Limit n)

-- what the bytes say under a limit on their number
abbrev pub read : ℕ → List ℕ → Parsed
read limit bytes =
    if nat_le (length bytes) limit then parsed (at_end (line_after bytes)) None (tokens_of bytes)
    else parsed (past_limit (line_after (take limit bytes))) None (tokens_ended (take limit bytes))

abbrev pub all_or_none : Option LogError → List (ℕ × ProofStep) → Option (List (ℕ × ProofStep))
all_or_none None steps = Some steps
all_or_none (Some e) steps = None

-- the steps of the bytes with their lines, or none where the bytes are no log under this limit
abbrev pub Steps : ℕ → List ℕ → Option (List (ℕ × ProofStep))
Steps limit bytes = all_or_none (read limit bytes).refused (read limit bytes).steps
