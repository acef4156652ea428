-- The words of a trace: the tokens of the text, each with its name.
use Rattle.std.specs.Prelude.{ℕ, ◌+◌, ◌*◌, min, List, [], ◌∷◌, ◌++◌, map, Option, Some, None, if◌then◌else◌}
use Rattle.q_text.specs.declared.tokens.Token.{Token}
use Rattle.q_text.specs.Words.{is_separator}
use Rattle.q_text.specs.Texts.{lines, is_comment, words_after, token_at, up_to_separator}
use Rattle.q_text.specs.Tokens.{handed as token_handed, handed_at_end as token_at_end, after as tokens_after, begun as tokens_begun}
use Rattle.q_qrp.specs.declared.words.Spoken.{Spoken}
use Rattle.q_qrp.specs.declared.words.Words.{Words}

-- bytes as the digits of a number of base 256, behind those of n
abbrev pub packed : ℕ → List ℕ → ℕ
packed n [] = n
packed n (b ∷ bs) = packed (256 * n + b) bs

-- names end here: a longer word is none of the words that a trace has
abbrev pub clipped_name : ℕ → ℕ
clipped_name n = min n 1152921504606846976

-- the name of a word: its bytes as a number, behind a 1, so that different words of up to seven bytes have different names
abbrev pub name_of : List ℕ → ℕ
name_of w = clipped_name (packed 1 w)

-- qrp
abbrev pub qrp_name : ℕ
qrp_name = name_of (113 ∷ 114 ∷ 112 ∷ [])

-- SAT
abbrev pub sat_name : ℕ
sat_name = name_of (83 ∷ 65 ∷ 84 ∷ [])

-- UNSAT
abbrev pub unsat_name : ℕ
unsat_name = name_of (85 ∷ 78 ∷ 83 ∷ 65 ∷ 84 ∷ [])

-- UNKNOWN
abbrev pub unknown_name : ℕ
unknown_name = name_of (85 ∷ 78 ∷ 75 ∷ 78 ∷ 79 ∷ 87 ∷ 78 ∷ [])

abbrev pub spoken_at : ℕ → List ℕ → Spoken
spoken_at n w = record { token = token_at n w; name = name_of w }

-- the words of line n
abbrev pub line_words : ℕ → List ℕ → List Spoken
line_words n l = if is_comment l then [] else map (spoken_at n) (words_after [] l)

-- the words of lines from line n on
abbrev pub lines_words : ℕ → List (List ℕ) → List Spoken
lines_words n [] = []
lines_words n (l ∷ ls) = line_words n l ++ lines_words (n + 1) ls

-- the words of a whole text
abbrev pub words_of : List ℕ → List Spoken
words_of bytes = lines_words 1 (lines bytes)

-- the words that end in these bytes
abbrev pub words_ended : List ℕ → List Spoken
words_ended bytes = words_of (up_to_separator bytes)

-- a token with its name
abbrev pub named : Option Token → ℕ → Option Spoken
named None n = None
named (Some t) n = Some (record { token = t; name = n })

-- the word that a byte hands out
abbrev pub handed : Words → ℕ → Option Spoken
handed w b = named (token_handed w.tokens b) (clipped_name w.name)

-- the word that the end hands out
abbrev pub handed_at_end : Words → Option Spoken
handed_at_end w = named (token_at_end w.tokens) (clipped_name w.name)

abbrev pub name_after : ℕ → ℕ → ℕ
name_after n b = if is_separator b then 1 else clipped_name (256 * n + b)

abbrev pub after : Words → ℕ → Words
after w b = record { tokens = tokens_after w.tokens b; name = name_after w.name b }

abbrev pub begun : Words
begun = record { tokens = tokens_begun; name = 1 }
