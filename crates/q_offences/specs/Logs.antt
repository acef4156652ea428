-- Logs as lists of tokens, without hints or of either profile, and where one is refused.
use Rattle.std.specs.Prelude.{◌≡◌, ◌≤◌, ◌<◌, ◌⊎◌, ℕ, List, ◌++◌, length, take}
use Rattle.std.specs.List.{AllByRecursion}
use Rattle.q_text.specs.declared.tokens.Token.{Token}
use Rattle.q_text.specs.Texts.{tokens_of, tokens_ended, line_after}
use Rattle.q_log.specs.declared.error.LogError.{LogError}
use Rattle.q_log.specs.declared.error.LogError.TheVariants.{BadLine, Limit, NoMemory}
use Rattle.q_log.specs.Spelled.{StepText, IsSpelled, tokens_in}
use Rattle.q_hinted.specs.Spelled.{HintedText, IsHintedSpelled, kinds_of, header_kinds}
use Rattle.q_hinted.specs.Spelled as hinted
use Rattle.q_offences.specs.Fronts.{MayGoOn, IsBadToken, IsBadEnd}

-- steps, one behind the other
pub record IsPlainLog (ts : List Token) : Type 0 where
  pub texts : List StepText
  pub are : ts ≡ tokens_in texts
  pub spelled : AllByRecursion IsSpelled texts

-- the header of the second profile, and steps with their proof parts
pub record IsHintedLog (ts : List Token) : Type 0 where
  pub header : List Token
  pub texts : List HintedText
  pub opens : kinds_of header ≡ header_kinds
  pub are : ts ≡ header ++ hinted.tokens_in texts
  pub spelled : AllByRecursion IsHintedSpelled texts

-- a log of either profile
abbrev pub IsLog : List Token → Type 0
IsLog ts = IsPlainLog ts ⊎ IsHintedLog ts

-- the bytes are refused so, where IsText says which tokens are a log: a bad line at the first token that does not fit, or at an end that
-- does not; the limit at the byte past it, where all tokens that end before it fit
abbrev pub IsFirstRefusal : (List Token → Type 0) → ℕ → List ℕ → LogError → Type 0
IsFirstRefusal IsText limit bytes (BadLine line) =
    ((length bytes ≤ limit) × (IsBadToken IsText (tokens_of bytes) line ⊎ IsBadEnd IsText (tokens_of bytes) (line_after bytes) line))
    ⊎ ((limit < length bytes) × IsBadToken IsText (tokens_ended (take limit bytes)) line)
IsFirstRefusal IsText limit bytes (Limit line) =
    (limit < length bytes) × MayGoOn IsText (tokens_ended (take limit bytes)) × (line ≡ line_after (take limit bytes))
IsFirstRefusal IsText limit bytes NoMemory = ⊥

-- the bytes are a log within the limit
abbrev pub IsWholeLog : (List Token → Type 0) → ℕ → List ℕ → Type 0
IsWholeLog IsText limit bytes = (length bytes ≤ limit) × IsText (tokens_of bytes)
