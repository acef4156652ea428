-- Where the variables of a prefix stand.
use Rattle.std.specs.Prelude.{◌≡◌, ℕ, List, slice_index_or}
use Rattle.q_logic.specs.Prelude.{Prefix}
use Rattle.q_logic.specs.Prefixes.{place}

-- a row by variable, and what holds of variables that it leaves out
pub record PlaceRow : Type 0 where
  pub row : List ℕ
  pub end : ℕ

-- what is told of a variable
abbrev pub place_in : PlaceRow → ℕ → ℕ
place_in s v = slice_index_or s.row v s.end

-- each variable's place in the prefix, and the prefix's length for the others
abbrev pub ArePlaces : Prefix → PlaceRow → Type 0
ArePlaces P s = (v : ℕ) → place_in s v ≡ place P v
