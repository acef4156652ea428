-- The lines of a file, their words, and the numbers among these.
use Rattle.std.specs.Prelude.{ℕ, ◌==◌, ◌||◌, min, Bool, List, [], ◌∷◌, ◌++◌, if◌then◌else◌, Option, Some, None}
use Rattle.q_text.specs.Texts.{lines, word_before}
use Rattle.q_text.specs.Words.{digits}

-- space and tab divide words
abbrev pub is_blank : ℕ → Bool
is_blank b = b == 32 || b == 9

-- the words of a line, of which the first begins with w
abbrev pub words_after : List ℕ → List ℕ → List (List ℕ)
words_after w [] = word_before w []
words_after w (b ∷ bs) = if is_blank b then word_before w (words_after [] bs) else words_after (w ++ b ∷ []) bs

abbrev pub words : List ℕ → List (List ℕ)
words l = words_after [] l

-- a CR in front of the LF is no part of the line
abbrev pub without_return : List ℕ → List ℕ
without_return [] = []
without_return (b ∷ []) = if b == 13 then [] else b ∷ []
without_return (b ∷ c ∷ bs) = b ∷ without_return (c ∷ bs)

-- what stands behind the last LF is a line if it is not empty
abbrev pub last_line : List ℕ → List (List ℕ)
last_line [] = []
last_line (b ∷ bs) = (b ∷ bs) ∷ []

-- the lines, by what stands between the LFs
abbrev pub ended : List (List ℕ) → List (List ℕ)
ended [] = []
ended (l ∷ []) = last_line l
ended (l ∷ m ∷ ls) = without_return l ∷ ended (m ∷ ls)

-- the lines of a file
abbrev pub lines_of : List ℕ → List (List ℕ)
lines_of bytes = ended (lines bytes)

-- no file has so many bytes, so no larger number matters
abbrev pub clipped : ℕ → ℕ
clipped n = min n 576460752303423488

abbrev pub clipped_some : Option ℕ → Option ℕ
clipped_some None = None
clipped_some (Some n) = Some (clipped n)

-- the number that a word is: digits without sign
abbrev pub number : List ℕ → Option ℕ
number w = clipped_some (digits w)
