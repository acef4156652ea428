-- The first token, or the end, at which a list of tokens ceases to be a front of a text, for any kind of text.
use Rattle.std.specs.Prelude.{◌≡◌, ℕ, List, [], ◌∷◌, ◌++◌}
use Rattle.q_text.specs.declared.tokens.Token.{Token}

-- some further tokens make a text of these
abbrev pub MayGoOn : (List Token → Type 0) → List Token → Type 0
MayGoOn IsText ts = (more : List Token) × IsText (ts ++ more)

-- the first token behind which no text goes on, on its line
pub record IsBadToken (IsText : List Token → Type 0) (ts : List Token) (line : ℕ) : Type 0 where
  pub front : List Token
  pub token : Token
  pub rest : List Token
  pub are : ts ≡ front ++ token ∷ rest
  pub before : MayGoOn IsText front
  pub after : ¬ MayGoOn IsText (front ++ token ∷ [])
  pub line_is : line ≡ token.line

-- the end of tokens that are no text, though some go on with them
pub record IsBadEnd (IsText : List Token → Type 0) (ts : List Token) (last line : ℕ) : Type 0 where
  pub before : MayGoOn IsText ts
  pub not_whole : ¬ IsText ts
  pub line_is : line ≡ last
