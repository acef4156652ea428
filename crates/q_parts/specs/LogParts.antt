-- A log cut behind lines.
use Rattle.std.specs.Prelude.{◌≡◌, ◌⊎◌, ℕ, List, [], ◌∷◌, ◌++◌}
use Rattle.q_text.specs.declared.tokens.Token.{Token}
use Rattle.q_text.specs.declared.tokens.TokenKind.{TokenKind}
use Rattle.q_text.specs.Texts.{tokens_of}
use Rattle.q_command.specs.Logs.{Entry, steps_of}

-- the bytes end a line, or there are none
abbrev pub EndsLine : List ℕ → Type 0
EndsLine bytes = (bytes ≡ []) ⊎ ((front : List ℕ) × (bytes ≡ front ++ 10 ∷ []))

-- two logs one behind the other: the steps of the first, then those of the second, on other lines
pub record IsJoined (first second both : List Entry) : Type 0 where
  pub later : List Entry
  pub are : both ≡ first ++ later
  pub same : steps_of later ≡ steps_of second

-- the words, without their lines
abbrev pub kinds_of : List Token → List TokenKind
kinds_of [] = []
kinds_of (t ∷ ts) = t.kind ∷ kinds_of ts

-- two texts have the same words, on whatever lines
abbrev pub AreSameWords : List ℕ → List ℕ → Type 0
AreSameWords log other = kinds_of (tokens_of log) ≡ kinds_of (tokens_of other)
