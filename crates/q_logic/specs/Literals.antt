-- Literals and their order. (QDIMACS 1.1)
use Rattle.std.specs.Prelude.{◌≡◌, ◌⊎◌, ◌<◌, ℕ, ◌+◌, ◌*◌, ◌/◌, ◌%◌, ◌==◌, Bool, true, false, not, ◌&&◌, eqb, if◌then◌else◌, ℤ, pos, neg_ℤ}

-- a variable or its negation
pub record Literal : Type 0 where
  pub var : ℕ
  pub negative : Bool

-- the literal of the same variable and the other sign
abbrev pub negation : Literal → Literal
negation k = record { var = k.var; negative = not k.negative }

-- whether the two values are equal
abbrev pub bool_eq : Bool → Bool → Bool
bool_eq true b = b
bool_eq false b = not b

-- whether the two literals are equal
abbrev pub literal_eq : Literal → Literal → Bool
literal_eq j k = eqb j.var k.var && bool_eq j.negative k.negative

-- literals are ordered by variable, the negative one first
abbrev pub IsBelow : Literal → Literal → Type 0
IsBelow k l = (k.var < l.var) ⊎ ((k.var ≡ l.var) × (k.negative ≡ true) × (l.negative ≡ false))

-- a literal as one number: these are in literal order
abbrev pub pack : Literal → ℕ
pack l = 2 * l.var + (if l.negative then 0 else 1)

-- the literal of a number
abbrev pub unpack : ℕ → Literal
unpack n = record { var = n / 2; negative = n % 2 == 0 }

-- a literal as it is written
abbrev pub number_of : Literal → ℤ
number_of l = if l.negative then neg_ℤ (pos l.var) else pos l.var
