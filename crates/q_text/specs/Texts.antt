-- The tokens of a whole text: line by line, word by word.
use Rattle.std.specs.Prelude.{◌≡◌, ℕ, ◌+◌, ◌==◌, Bool, false, List, [], ◌∷◌, ◌++◌, map, if◌then◌else◌, ◌||◌}
use Rattle.q_text.specs.declared.tokens.Token.{Token}
use Rattle.q_text.specs.Words.{is_separator, kind_of}

-- a byte in front of the first line
abbrev pub onto_first : ℕ → List (List ℕ) → List (List ℕ)
onto_first b [] = (b ∷ []) ∷ []
onto_first b (l ∷ ls) = (b ∷ l) ∷ ls

-- the lines of the text, each without its LF
abbrev pub lines : List ℕ → List (List ℕ)
lines [] = [] ∷ []
lines (b ∷ bs) = if b == 10 then [] ∷ lines bs else onto_first b (lines bs)

-- the line's first byte other than space, tab and CR is c
abbrev pub is_comment : List ℕ → Bool
is_comment [] = false
is_comment (b ∷ bs) = if is_separator b then is_comment bs else b == 99

-- a word, if it is not empty, before other words
abbrev pub word_before : List ℕ → List (List ℕ) → List (List ℕ)
word_before [] ws = ws
word_before (b ∷ bs) ws = (b ∷ bs) ∷ ws

-- the words of a line, of which the first begins with w
abbrev pub words_after : List ℕ → List ℕ → List (List ℕ)
words_after w [] = word_before w []
words_after w (b ∷ bs) = if is_separator b then word_before w (words_after [] bs) else words_after (w ++ b ∷ []) bs

abbrev pub token_at : ℕ → List ℕ → Token
token_at n w = record { kind = kind_of w; line = n }

-- the tokens of line n
abbrev pub line_tokens : ℕ → List ℕ → List Token
line_tokens n l = if is_comment l then [] else map (token_at n) (words_after [] l)

-- the tokens of lines from line n on
abbrev pub lines_tokens : ℕ → List (List ℕ) → List Token
lines_tokens n [] = []
lines_tokens n (l ∷ ls) = line_tokens n l ++ lines_tokens (n + 1) ls

-- the tokens of a whole text
abbrev pub tokens_of : List ℕ → List Token
tokens_of bytes = lines_tokens 1 (lines bytes)

-- the line behind the bytes, of which the first stands on line n: each LF ends a line
abbrev pub line_from : ℕ → List ℕ → ℕ
line_from n [] = n
line_from n (b ∷ bs) = line_from (if b == 10 then n + 1 else n) bs

abbrev pub line_after : List ℕ → ℕ
line_after bytes = line_from 1 bytes

abbrev pub has_separator : List ℕ → Bool
has_separator [] = false
has_separator (b ∷ bs) = is_separator b || has_separator bs

-- the bytes up to the last separator: the tokens that end in the bytes are the tokens of these
abbrev pub up_to_separator : List ℕ → List ℕ
up_to_separator [] = []
up_to_separator (b ∷ bs) = if has_separator (b ∷ bs) then b ∷ up_to_separator bs else []

-- the tokens that end in these bytes
abbrev pub tokens_ended : List ℕ → List Token
tokens_ended bytes = tokens_of (up_to_separator bytes)

-- what stood in the text still stands at its front
pub record Extends (old new : List ℕ) : Type 0 where
  pub rest : List ℕ
  pub is : new ≡ old ++ rest
