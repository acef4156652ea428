-- What a word of the text is: a number, a letter, cnf, qrat, or something else.
use Rattle.std.specs.Prelude.{ℕ, ◌+◌, ◌-◌, ◌*◌, ◌==◌, ◌&&◌, ◌||◌, min, Bool, true, false, List, [], ◌∷◌, Option, Some, None, pos, neg_ℤ, if◌then◌else◌, nat_le}
use Rattle.q_text.specs.declared.tokens.TokenKind.{TokenKind}
use Rattle.q_text.specs.declared.tokens.TokenKind.TheVariants.{Number, P, Cnf, Qrat, E, A, D, U, R, Other}

-- space, LF, tab and CR divide words
abbrev pub is_separator : ℕ → Bool
is_separator b = b == 10 || b == 32 || b == 9 || b == 13

abbrev pub is_digit : ℕ → Bool
is_digit b = nat_le 48 b && nat_le b 57

-- the value of digits behind digits of value n, or none where some byte is no digit
abbrev pub digits_behind : ℕ → List ℕ → Option ℕ
digits_behind n [] = Some n
digits_behind n (b ∷ bs) = if is_digit b then digits_behind (10 * n + (b - 48)) bs else None

-- one or more digits
abbrev pub digits : List ℕ → Option ℕ
digits [] = None
digits (b ∷ bs) = digits_behind 0 (b ∷ bs)

-- magnitudes end here
abbrev pub clipped : ℕ → ℕ
clipped n = min n 4611686018427387904

-- a number without sign
abbrev pub plain : Option ℕ → TokenKind
plain None = Other
plain (Some n) = Number (pos (clipped n))

-- behind a minus the value isn't 0
abbrev pub negative : Option ℕ → TokenKind
negative None = Other
negative (Some n) = if n == 0 then Other else Number (neg_ℤ (pos (clipped n)))

-- what a word of one byte is
abbrev pub letter : ℕ → TokenKind
letter b =
    if b == 112 then P
    else (if b == 101 then E
    else (if b == 97 then A
    else (if b == 100 then D
    else (if b == 117 then U
    else (if b == 114 then R
    else plain (digits (b ∷ [])))))))

-- what a longer word is
abbrev pub longer : ℕ → ℕ → List ℕ → TokenKind
longer b c bs = if b == 45 then negative (digits (c ∷ bs)) else plain (digits (b ∷ c ∷ bs))

abbrev pub is_cnf : List ℕ → Bool
is_cnf [] = false
is_cnf (a ∷ []) = false
is_cnf (a ∷ b ∷ []) = false
is_cnf (a ∷ b ∷ c ∷ []) = a == 99 && b == 110 && c == 102
is_cnf (a ∷ b ∷ c ∷ d ∷ bs) = false

-- no byte is left
abbrev pub is_done : List ℕ → Bool
is_done [] = true
is_done (b ∷ bs) = false

abbrev pub is_qrat : List ℕ → Bool
is_qrat [] = false
is_qrat (a ∷ []) = false
is_qrat (a ∷ b ∷ []) = false
is_qrat (a ∷ b ∷ c ∷ []) = false
is_qrat (a ∷ b ∷ c ∷ d ∷ bs) = a == 113 && b == 114 && c == 97 && d == 116 && is_done bs

-- the kind of a word
abbrev pub kind_of : List ℕ → TokenKind
kind_of [] = Other
kind_of (b ∷ []) = letter b
kind_of (b ∷ c ∷ bs) = if is_cnf (b ∷ c ∷ bs) then Cnf else (if is_qrat (b ∷ c ∷ bs) then Qrat else longer b c bs)
