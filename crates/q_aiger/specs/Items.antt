-- The lines of inputs, outputs and gates.
use Rattle.std.specs.Prelude.{◌≡◌, ◌≤◌, ◌<◌, ℕ, zero, suc, ◌+◌, ◌-◌, ◌*◌, ◌/◌, ◌%◌, ◌==◌, ◌&&◌, nat_lt, nat_le, eqb, Bool, List, [], ◌∷◌, ◌++◌, length, if◌then◌else◌, Option, Some, None, Result, Ok, Err, is_some}
use Rattle.q_aiger.specs.Lines.{number, words}
use Rattle.q_aiger.specs.Headers.{Header}

-- the variables that were defined, in order: those of the inputs, then those of the gates; the literals of the
-- outputs, and the operands of the gates
pub record Items : Type 0 where
  pub defined : List ℕ
  pub outputs : List ℕ
  pub operands : List (ℕ × ℕ)

abbrev pub no_items : Items
no_items = record { defined = []; outputs = []; operands = [] }

abbrev pub raised : Option ℕ → Option ℕ
raised None = None
raised (Some k) = Some (suc k)

-- the first place of a variable
abbrev pub place_of : List ℕ → ℕ → Option ℕ
place_of [] v = None
place_of (w ∷ ws) v = if eqb w v then Some 0 else raised (place_of ws v)

abbrev pub bad_token : ℕ
bad_token = 2

abbrev pub defined_twice : ℕ
defined_twice = 4

abbrev pub unended : ℕ
unended = 8

-- a literal that may stand on the left
abbrev pub is_left : ℕ → ℕ → Bool
is_left max l = nat_le 2 l && (nat_le l (2 * max) && l % 2 == 0)

-- a literal that may stand on the right
abbrev pub is_right : ℕ → ℕ → Bool
is_right max l = nat_le l (2 * max + 1)

-- a line of one number
abbrev pub one_number : List (List ℕ) → Option ℕ
one_number (w ∷ []) = number w
one_number ws = None

abbrev pub triple : Option ℕ → Option ℕ → Option ℕ → Option (ℕ × ℕ × ℕ)
triple (Some a) (Some b) (Some c) = Some (a, b, c)
triple a b c = None

-- a line of three numbers
abbrev pub three_numbers : List (List ℕ) → Option (ℕ × ℕ × ℕ)
three_numbers (a ∷ b ∷ c ∷ []) = triple (number a) (number b) (number c)
three_numbers ws = None

abbrev pub with_input : Header → Items → Option ℕ → Result Items ℕ
with_input h s None = Err bad_token
with_input h s (Some l) =
    if is_left h.max l
    then (if is_some (place_of s.defined (l / 2)) then Err defined_twice else Ok (record s { defined = s.defined ++ (l / 2) ∷ [] }))
    else Err bad_token

abbrev pub with_output : Header → Items → Option ℕ → Result Items ℕ
with_output h s None = Err bad_token
with_output h s (Some l) = if is_right h.max l then Ok (record s { outputs = s.outputs ++ l ∷ [] }) else Err bad_token

abbrev pub with_gate : Header → Items → Option (ℕ × ℕ × ℕ) → Result Items ℕ
with_gate h s None = Err bad_token
with_gate h s (Some (l, a, b)) =
    if is_left h.max l && (is_right h.max a && is_right h.max b)
    then (if is_some (place_of s.defined (l / 2)) then Err defined_twice
    else Ok (record s { defined = s.defined ++ (l / 2) ∷ []; operands = s.operands ++ (a, b) ∷ [] }))
    else Err bad_token

-- the next line: first come the inputs, then the outputs, then the gates
abbrev pub with_line : Header → Items → List (List ℕ) → Result Items ℕ
with_line h s ws =
    if nat_lt (length s.defined) h.inputs then with_input h s (one_number ws)
    else (if nat_lt (length s.outputs) h.outputs then with_output h s (one_number ws)
    else with_gate h s (three_numbers ws))

-- what has been read, the number of the next line, and the lines from there on
pub record Behind : Type 0 where
  pub items : Items
  pub line : ℕ
  pub lines : List (List ℕ)

abbrev pub follow : {X Y : Type 0} → ℕ → Result X ℕ → (X → Result Y (ℕ × ℕ)) → Result Y (ℕ × ℕ)
follow n (Ok x) later = later x
follow n (Err c) later = Err (n, c)

-- so many lines of items, from line n on; the file ends on line e
abbrev pub items_from : Header → ℕ → ℕ → Items → ℕ → List (List ℕ) → Result Behind (ℕ × ℕ)
items_from h e n s zero ls = Ok (record { items = s; line = n; lines = ls })
items_from h e n s (suc k) [] = Err (e, unended)
items_from h e n s (suc k) (l ∷ ls) = follow n (with_line h s (words l)) (λ t. items_from h e (n + 1) t k ls)

-- all lines of items
abbrev pub items_of : Header → ℕ → List (List ℕ) → Result Behind (ℕ × ℕ)
items_of h e ls = items_from h e 2 no_items (h.inputs + h.outputs + h.gates) ls

-- how far the lines of items have come, with so many lines left: inputs stand first, then outputs
pub record IsOnTheWay (h : Header) (s : Items) (left : ℕ) : Type 0 where
  pub count : length s.defined + length s.outputs + left ≡ h.inputs + h.outputs + h.gates
  pub gates : length s.defined - h.inputs ≡ length s.operands
  pub outputs : length s.outputs ≤ h.outputs
  pub inputs_first : length s.defined < h.inputs → length s.outputs ≡ 0
  pub outputs_first : h.inputs < length s.defined → length s.outputs ≡ h.outputs
