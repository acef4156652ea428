-- Where a log is refused, over its tokens: at the end of the shortest front that no log continues, or at its own end where a step
-- has begun there.
use Rattle.std.specs.Prelude.{◌≡◌, ◌≢◌, ◌≤◌, ◌<◌, ◌⊎◌, ℕ, List, [], ◌∷◌, ◌++◌, length, take, Option, Some, None}
use Rattle.q_text.specs.declared.tokens.Token.{Token}
use Rattle.q_text.specs.Texts.{tokens_of, tokens_ended, line_after}
use Rattle.q_log.specs.declared.error.LogError.TheVariants.{BadLine, Limit}
use Rattle.q_log.specs.Grammar.{OpenStep}
use Rattle.q_log.specs.Logs.{parsed, at_end, read}

-- behind a step that has begun, or none, the tokens end a log, on whatever line
abbrev pub EndsLog : Option OpenStep → List Token → Type 0
EndsLog begun ts = (n : ℕ) → (parsed (at_end n) begun ts).refused ≡ None

-- some further tokens make them end a log
abbrev pub MayEndLog : Option OpenStep → List Token → Type 0
MayEndLog begun ts = (more : List Token) × EndsLog begun (ts ++ more)

-- the token t, on line n, is the first behind which no log goes on
pub record IsFirstUnfit (begun : Option OpenStep) (ts : List Token) (n : ℕ) : Type 0 where
  pub front : List Token
  pub t : Token
  pub rest : List Token
  pub are : ts ≡ front ++ t ∷ rest
  pub line : n ≡ t.line
  pub before : MayEndLog begun front
  pub after : ¬ MayEndLog begun (front ++ t ∷ [])

-- a log that goes on has not ended
pub record IsUnended (begun : Option OpenStep) (ts : List Token) (n last : ℕ) : Type 0 where
  pub line : n ≡ last
  pub may : MayEndLog begun ts
  pub not : ¬ EndsLog begun ts

-- a log within its limit on bytes is refused, with the line n, at the first token behind which no log goes on, or at its end inside a
-- step
abbrev pub IsBadLine : List Token → ℕ → ℕ → Type 0
IsBadLine ts n last = IsFirstUnfit None ts n ⊎ IsUnended None ts n last

-- of each refusal of a log with so many bytes at most: a bad line comes at the shortest front of its tokens that no log continues,
-- or at the end of its own; the limit, on the line of the first byte past it, where no token before it is bad. A log past the limit
-- is always refused
pub record AreLeast (limit : ℕ) (bytes : List ℕ) : Type 0 where
  pub within : length bytes ≤ limit → (n : ℕ) → (read limit bytes).refused ≡ Some (BadLine n) →
      IsBadLine (tokens_of bytes) n (line_after bytes)
  pub no_limit : length bytes ≤ limit → (n : ℕ) → (read limit bytes).refused ≢ Some (Limit n)
  pub past : limit < length bytes → (n : ℕ) → (read limit bytes).refused ≡ Some (BadLine n) →
      IsFirstUnfit None (tokens_ended (take limit bytes)) n
  pub at_limit : limit < length bytes → (n : ℕ) → (read limit bytes).refused ≡ Some (Limit n) →
      (n ≡ line_after (take limit bytes)) × MayEndLog None (tokens_ended (take limit bytes))
  pub refused : limit < length bytes → (read limit bytes).refused ≢ None

abbrev pub RefusalsAreLeast : Type 0
RefusalsAreLeast = (limit : ℕ) → (bytes : List ℕ) → AreLeast limit bytes
