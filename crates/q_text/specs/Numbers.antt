-- The text of numbers: decimal digits, and a space behind each.
use Rattle.std.specs.Prelude.{ℕ, List, [], ◌∷◌, ◌++◌, ℤ}
use Rattle.std.specs.Fmt.{signed_decimal}

abbrev pub number_text : ℤ → List ℕ
number_text z = signed_decimal z ++ 32 ∷ []

abbrev pub numbers_text : List ℤ → List ℕ
numbers_text [] = []
numbers_text (z ∷ zs) = number_text z ++ numbers_text zs

-- a 0 and LF
abbrev pub line_end : List ℕ
line_end = 48 ∷ 10 ∷ []
