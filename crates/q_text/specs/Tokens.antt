-- The tokens that are still to come behind some bytes: what one byte changes, and what it hands out.
use Rattle.std.specs.Prelude.{ℕ, ◌+◌, ◌-◌, ◌*◌, ◌==◌, Bool, true, false, ℤ, negsuc, List, [], ◌∷◌, ◌++◌, Option, Some, None, pos, neg_ℤ, if◌then◌else◌}
use Rattle.q_text.specs.declared.tokens.TokenKind.{TokenKind}
use Rattle.q_text.specs.declared.tokens.TokenKind.TheVariants.{Number, P, Cnf, Qrat, E, A, D, U, R, Other}
use Rattle.q_text.specs.declared.shape.Shape.{Shape}
use Rattle.q_text.specs.declared.shape.Shape.TheVariants.{Start, Comment, Between, Minus, Digits, C, Cn, Q, Qr, Qra, Word}
use Rattle.q_text.specs.declared.tokens.Token.{Token}
use Rattle.q_text.specs.declared.tokens.Tokens.{Tokens}
use Rattle.q_logic.specs.Prelude.{Literal, number_of}
use Rattle.q_text.specs.Words.{is_separator, is_digit, clipped}

-- the shape of a word of one byte
abbrev pub first_shape : ℕ → Shape
first_shape b =
    if is_digit b then Digits false (b - 48)
    else (if b == 45 then Minus
    else (if b == 112 then Word P
    else (if b == 101 then Word E
    else (if b == 97 then Word A
    else (if b == 100 then Word D
    else (if b == 117 then Word U
    else (if b == 114 then Word R
    else (if b == 99 then C
    else (if b == 113 then Q
    else Word Other)))))))))

-- the shape with one more byte of a word
abbrev pub grown : Shape → ℕ → Shape
grown Start b = if b == 99 then Comment else first_shape b
grown Comment b = Comment
grown Between b = first_shape b
grown Minus b = if is_digit b then Digits true (b - 48) else Word Other
grown (Digits s m) b = if is_digit b then Digits s (clipped (10 * m + (b - 48))) else Word Other
grown C b = if b == 110 then Cn else Word Other
grown Cn b = if b == 102 then Word Cnf else Word Other
grown Q b = if b == 114 then Qr else Word Other
grown Qr b = if b == 97 then Qra else Word Other
grown Qra b = if b == 116 then Word Qrat else Word Other
grown (Word k) b = Word Other

-- behind a space, tab or CR
abbrev pub after_blank : Shape → Shape
after_blank Start = Start
after_blank Comment = Comment
after_blank Between = Between
after_blank Minus = Between
after_blank (Digits s m) = Between
after_blank C = Between
after_blank Cn = Between
after_blank Q = Between
after_blank Qr = Between
after_blank Qra = Between
after_blank (Word k) = Between

-- the word that ends there
abbrev pub kind_in : Shape → Option TokenKind
kind_in Start = None
kind_in Comment = None
kind_in Between = None
kind_in Minus = Some Other
kind_in (Digits false m) = Some (Number (pos (clipped m)))
kind_in (Digits true m) = Some (if m == 0 then Other else Number (neg_ℤ (pos (clipped m))))
kind_in C = Some Other
kind_in Cn = Some Other
kind_in Q = Some Other
kind_in Qr = Some Other
kind_in Qra = Some Other
kind_in (Word k) = Some k

abbrev pub token_in : Option TokenKind → ℕ → Option Token
token_in None n = None
token_in (Some k) n = Some (record { kind = k; line = n })

abbrev pub listed : Option Token → List Token
listed None = []
listed (Some t) = t ∷ []

-- the token that a byte hands out
abbrev pub handed : Tokens → ℕ → Option Token
handed t b = if is_separator b then token_in (kind_in t.shape) t.line else None

-- the token that the end hands out
abbrev pub handed_at_end : Tokens → Option Token
handed_at_end t = token_in (kind_in t.shape) t.line

-- 1 and the LF bytes so far
abbrev pub line_of : Tokens → ℕ
line_of t = t.line

abbrev pub after : Tokens → ℕ → Tokens
after t b =
    if b == 10 then record { line = t.line + 1; shape = Start }
    else (if is_separator b then record { line = t.line; shape = after_blank t.shape }
    else record { line = t.line; shape = grown t.shape b })

-- the tokens that come where these bytes follow
abbrev pub to_come : Tokens → List ℕ → List Token
to_come t [] = listed (token_in (kind_in t.shape) t.line)
to_come t (b ∷ bs) = listed (handed t b) ++ to_come (after t b) bs

abbrev pub begun : Tokens
begun = record { line = 1; shape = Start }

-- the tokens that these bytes hand out
abbrev pub all_handed : Tokens → List ℕ → List Token
all_handed t [] = []
all_handed t (b ∷ bs) = listed (handed t b) ++ all_handed (after t b) bs

-- the number 0, which ends clauses and steps
abbrev pub is_zero_ℤ : ℤ → Bool
is_zero_ℤ (pos n) = n == 0
is_zero_ℤ (negsuc n) = false

abbrev pub is_zero : TokenKind → Bool
is_zero (Number z) = is_zero_ℤ z
is_zero P = false
is_zero Cnf = false
is_zero Qrat = false
is_zero E = false
is_zero A = false
is_zero D = false
is_zero U = false
is_zero R = false
is_zero Other = false

-- the literals, and 0
abbrev pub literals_kinds : List Literal → List TokenKind
literals_kinds [] = Number (pos 0) ∷ []
literals_kinds (l ∷ ls) = Number (number_of l) ∷ literals_kinds ls
