-- The header `aag M I L O A`, and its offences.
use Rattle.std.specs.Prelude.{◌≡◌, ◌<◌, ◌≤◌, ℕ, ◌+◌, ◌*◌, ◌-◌, ◌==◌, ◌&&◌, nat_lt, Bool, false, List, [], ◌∷◌, length, take, if◌then◌else◌, Option, Some, None, Result, Ok, Err, min}
use Rattle.q_text.specs.Words.{digits}
use Rattle.q_aiger.specs.declared.header.Header.{Header as HeaderCode}
use Rattle.q_aiger.specs.declared.header.Words.{Words}
use Rattle.q_aiger.specs.Lines.{clipped, words}

-- the numbers of the header, as they are written
pub record Counts : Type 0 where
  pub max : ℕ
  pub inputs : ℕ
  pub latches : ℕ
  pub outputs : ℕ
  pub gates : ℕ

abbrev pub is_aag : List ℕ → Bool
is_aag [] = false
is_aag (a ∷ []) = false
is_aag (a ∷ b ∷ []) = false
is_aag (a ∷ b ∷ c ∷ []) = a == 97 && (b == 97 && c == 103)
is_aag (a ∷ b ∷ c ∷ d ∷ bs) = false

abbrev pub counts_with : Option ℕ → Option ℕ → Option ℕ → Option ℕ → Option ℕ → Option Counts
counts_with (Some m) (Some i) (Some l) (Some o) (Some a) = Some (record { max = m; inputs = i; latches = l; outputs = o; gates = a })
counts_with m i l o a = None

-- six words
abbrev pub counts_of : List (List ℕ) → Option Counts
counts_of (t ∷ m ∷ i ∷ l ∷ o ∷ a ∷ []) = if is_aag t then counts_with (digits m) (digits i) (digits l) (digits o) (digits a) else None
counts_of ws = None

abbrev pub bad_header : ℕ
bad_header = 1

abbrev pub bad_latch : ℕ
bad_latch = 3

abbrev pub limit : ℕ
limit = 9

-- what a file says that it has
pub record Header : Type 0 where
  pub max : ℕ
  pub inputs : ℕ
  pub outputs : ℕ
  pub gates : ℕ

abbrev pub header_with : Option Counts → Result Header ℕ
header_with None = Err bad_header
header_with (Some c) =
    if nat_lt c.max (c.inputs + c.latches + c.gates) then Err bad_header
    else (if nat_lt 0 c.latches then Err bad_latch
    else (if nat_lt 268435456 c.max then Err limit
    else Ok (record { max = c.max; inputs = c.inputs; outputs = clipped c.outputs; gates = c.gates })))

-- the header of a line, or its cause
abbrev pub header_of : List ℕ → Result Header ℕ
header_of l = header_with (counts_of (words l))

-- the header as the code has it
abbrev pub header_view : HeaderCode → Header
header_view h = record { max = h.max; inputs = h.inputs; outputs = h.outputs; gates = h.gates }

-- the value of digits behind digits of value n
abbrev pub value_behind : ℕ → List ℕ → ℕ
value_behind n [] = n
value_behind n (b ∷ bs) = value_behind (10 * n + (b - 48)) bs

abbrev pub value : List ℕ → ℕ
value w = value_behind 0 w

-- the word is a number
abbrev pub IsNumber : List ℕ → Type 0
IsNumber w = digits w ≡ Some (value w)

-- the value of the first digits, at the length of another word
abbrev pub padded : ℕ → List ℕ → ℕ → ℕ
padded len w k = value (take (k - (len - length w)) w)

-- what is known of the digits so far: their value is less than the sum, or more by so much, up to 3
abbrev pub IsSpare : Option ℕ → ℕ → ℕ → Type 0
IsSpare None m s = m < s
IsSpare (Some r) m s = (s ≤ m) × (r ≡ min (m - s) 3)

abbrev pub IsSmall : Option ℕ → Type 0
IsSmall None = Unit {0}
IsSmall (Some r) = r ≤ 3

abbrev pub counts_in : Words → Option Counts
counts_in r = if is_aag r.tag.now then counts_with (digits r.max.now) (digits r.inputs.now) (digits r.latches.now) (digits r.outputs.now) (digits r.gates.now) else None

pub record AreNumbers (r : Words) : Type 0 where
  pub max : IsNumber r.max.now
  pub inputs : IsNumber r.inputs.now
  pub latches : IsNumber r.latches.now
  pub outputs : IsNumber r.outputs.now
  pub gates : IsNumber r.gates.now
