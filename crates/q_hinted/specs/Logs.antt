-- What a whole log of either profile says: its steps with their lines and proof parts, or its first offence.
use Rattle.std.specs.Prelude.{ℕ, ◌==◌, nat_le, List, [], ◌∷◌, ◌++◌, length, map, take, if◌then◌else◌, Option, Some, None}
use Rattle.q_logic.specs.Prelude.{Hinted, ProofPart, ProofStep}
use Rattle.q_text.specs.declared.tokens.Token.{Token}
use Rattle.q_text.specs.Texts.{tokens_of, tokens_ended, line_after}
use Rattle.q_log.specs.declared.error.LogError.{LogError}
use Rattle.q_log.specs.declared.error.LogError.TheVariants.{BadLine, Limit}
use Rattle.q_log.specs.Logs.{Parsed}
use Rattle.q_hinted.specs.Grammar.{Place, nowhere, format, version, plain, steps, proving, EntryMove, hands, leads, misfit, place_move, first_profile}

-- a step with the line of its first token, and with its proof part in the second profile
abbrev pub Entry : Type 0
Entry = ℕ × ProofStep × Option ProofPart

-- the entries up to the first offence, and this offence
pub record Entries : Type 0 where
  pub entries : List Entry
  pub refused : Option LogError

abbrev pub stopped : LogError → Entries
stopped e = record { entries = []; refused = Some e }

abbrev pub finished : Entries
finished = record { entries = []; refused = None }

-- a step of the first profile, and one of the second
abbrev pub plain_entry : ℕ × ProofStep → Entry
plain_entry s = (s.0, s.1, None)

abbrev pub hinted_entry : ℕ × Hinted → Entry
hinted_entry h = (h.0, h.1.step, Some h.1.proof)

-- what a plain log says, as entries
abbrev pub plain_entries : Parsed → Entries
plain_entries o = record { entries = map plain_entry o.steps; refused = o.refused }

-- an entry in front
abbrev pub onto : Entry → Entries → Entries
onto e o = record { entries = e ∷ o.entries; refused = o.refused }

-- entries that were handed out already, in front
abbrev pub behind : List Entry → Entries → Entries
behind es o = record { entries = es ++ o.entries; refused = o.refused }

abbrev pub follow : EntryMove → ℕ → (Place → Entries) → Entries
follow (hands n s t q) line later = onto (n, s, t) (later q)
follow (leads q) line later = later q
follow misfit line later = stopped (BadLine line)

-- what tokens say from a place on; `last` tells what the end is there
abbrev pub parsed : (Place → Option LogError) → Place → List Token → Entries
parsed last p [] = record { entries = []; refused = last p }
parsed last p (t ∷ ts) = follow (place_move p t) t.line (λ q. parsed last q ts)

-- no step, header or proof part is left open
abbrev pub open_end : ℕ → {X : Type 0} → Option X → Option LogError
open_end n None = None
open_end n (Some x) = Some (BadLine n)

-- the end, on line n, stands between steps
abbrev pub at_end : ℕ → Place → Option LogError
at_end n nowhere = None
at_end n format = Some (BadLine n)
at_end n version = Some (BadLine n)
at_end n (plain o) = open_end n o
at_end n (steps o) = open_end n o
at_end n (proving m s g p) = Some (BadLine n)

-- the byte past the limit, on line n, ends no token
abbrev pub past_limit : ℕ → Place → Option LogError
past_limit n p = Some (Limit n)

-- the tokens within the limit
abbrev pub tokens_within : ℕ → List ℕ → List Token
tokens_within limit bytes = if nat_le (length bytes) limit then tokens_of bytes else tokens_ended (take limit bytes)

-- what the bytes say under a limit on their number
abbrev pub read_entries : ℕ → List ℕ → Entries
read_entries limit bytes =
    if nat_le (length bytes) limit then parsed (at_end (line_after bytes)) nowhere (tokens_of bytes)
    else parsed (past_limit (line_after (take limit bytes))) nowhere (tokens_ended (take limit bytes))

abbrev pub profile_of : List Token → ℕ
profile_of [] = 1
profile_of (t ∷ ts) = first_profile t.kind

-- the profile of a log: the second exactly where the first token is p
abbrev pub Profile : ℕ → List ℕ → ℕ
Profile limit bytes = profile_of (tokens_within limit bytes)

abbrev pub if_hinted : ℕ → ProofStep → Option ProofPart → List (ℕ × Hinted) → List (ℕ × Hinted)
if_hinted n s None hs = hs
if_hinted n s (Some t) hs = (n, record { step = s; proof = t }) ∷ hs

-- the steps that have proof parts
abbrev pub hinted_in : List Entry → List (ℕ × Hinted)
hinted_in [] = []
hinted_in (e ∷ es) = if_hinted e.0 e.1 e.2 (hinted_in es)

abbrev pub all_or_none : Option LogError → List (ℕ × Hinted) → Option (List (ℕ × Hinted))
all_or_none None hs = Some hs
all_or_none (Some e) hs = None

-- the steps of the bytes with their proof parts and lines, or none where the bytes are no log of the second profile
-- under this limit
abbrev pub HintedSteps : ℕ → List ℕ → Option (List (ℕ × Hinted))
HintedSteps limit bytes =
    if Profile limit bytes == 2
    then all_or_none (read_entries limit bytes).refused (hinted_in (read_entries limit bytes).entries)
    else None
