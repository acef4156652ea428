-- The names of inputs and outputs: symbol lines, up to the end or a comment.
use Rattle.std.specs.Prelude.{◌≡◌, ◌≤◌, ◌<◌, ℕ, ◌+◌, ◌==◌, ◌&&◌, nat_lt, nat_le, eqb, Bool, false, not, List, [], ◌∷◌, length, slice_set, slice_index_or, if◌then◌else◌, Option, Some, Result, Ok, Err, replicate}
use Rattle.std.specs.List.{list_any}
use Rattle.q_aiger.specs.Lines.{number, words}
use Rattle.q_aiger.specs.Items.{follow}

abbrev pub bad_symbol : ℕ
bad_symbol = 7

-- what a symbol line says
pub data Symbol : Type 0 where
  nothing : Symbol
  comment : Symbol
  input_name : ℕ → ℕ → Symbol
  output_name : ℕ → ℕ → Symbol
  strange : Symbol

abbrev pub input_symbol : Option ℕ → Option ℕ → Symbol
input_symbol (Some i) (Some v) = input_name i v
input_symbol i v = strange

abbrev pub output_symbol : Option ℕ → Option ℕ → Symbol
output_symbol (Some i) (Some v) = output_name i v
output_symbol i v = strange

-- `iN` or `oN`, and the name
abbrev pub named_symbol : List ℕ → Option ℕ → Symbol
named_symbol [] v = strange
named_symbol (b ∷ bs) v = if b == 105 then input_symbol (number bs) v else (if b == 111 then output_symbol (number bs) v else strange)

abbrev pub is_c : List ℕ → Bool
is_c [] = false
is_c (b ∷ []) = b == 99
is_c (b ∷ c ∷ bs) = false

abbrev pub lone_symbol : List ℕ → Symbol
lone_symbol w = if is_c w then comment else strange

abbrev pub symbol_of : List (List ℕ) → Symbol
symbol_of [] = nothing
symbol_of (w ∷ []) = lone_symbol w
symbol_of (w ∷ v ∷ []) = named_symbol w (number v)
symbol_of (w ∷ v ∷ x ∷ ws) = strange

-- of each place its name, 0 where it has none so far
abbrev pub is_used : List ℕ → ℕ → Bool
is_used names v = list_any (λ w. eqb w v) names

-- the place is there and has no name so far, the name is a variable that names no other place
abbrev pub is_free_name : List ℕ → ℕ → ℕ → Bool
is_free_name names i v =
    nat_lt i (length names) && (nat_le 1 v && (nat_le v 16777215 && (slice_index_or names i 0 == 0 && not (is_used names v))))

abbrev pub with_name : List ℕ → ℕ → ℕ → Result (List ℕ) ℕ
with_name names i v = if is_free_name names i v then Ok (slice_set names i v) else Err bad_symbol

pub record Names : Type 0 where
  pub inputs : List ℕ
  pub outputs : List ℕ

-- each place has its name
abbrev pub all_named : List ℕ → Bool
all_named names = not (is_used names 0)

-- at the end, on line e
abbrev pub names_at_end : ℕ → Names → Result Names (ℕ × ℕ)
names_at_end e s = if all_named s.inputs && all_named s.outputs then Ok s else Err (e, bad_symbol)

abbrev pub with_inputs : Names → Result (List ℕ) ℕ → Result Names ℕ
with_inputs s (Ok names) = Ok (record s { inputs = names })
with_inputs s (Err c) = Err c

abbrev pub with_outputs : Names → Result (List ℕ) ℕ → Result Names ℕ
with_outputs s (Ok names) = Ok (record s { outputs = names })
with_outputs s (Err c) = Err c

abbrev pub symbol_turn : ℕ → ℕ → Names → Symbol → (Names → Result Names (ℕ × ℕ)) → Result Names (ℕ × ℕ)
symbol_turn e n s nothing later = later s
symbol_turn e n s comment later = names_at_end e s
symbol_turn e n s (input_name i v) later = follow n (with_inputs s (with_name s.inputs i v)) later
symbol_turn e n s (output_name i v) later = follow n (with_outputs s (with_name s.outputs i v)) later
symbol_turn e n s strange later = Err (n, bad_symbol)

-- the names by the lines from line n on; the file ends on line e
abbrev pub names_from : ℕ → ℕ → Names → List (List ℕ) → Result Names (ℕ × ℕ)
names_from e n s [] = names_at_end e s
names_from e n s (l ∷ ls) = symbol_turn e n s (symbol_of (words l)) (λ t. names_from e (n + 1) t ls)

abbrev pub no_names : ℕ → ℕ → Names
no_names inputs outputs = record { inputs = replicate inputs 0; outputs = replicate outputs 0 }

-- no name stands twice
abbrev pub AreApart : List ℕ → Type 0
AreApart names =
    (i j : ℕ) → i < length names → j < length names → 1 ≤ slice_index_or names i 0 → slice_index_or names i 0 ≡ slice_index_or names j 0 → i ≡ j
