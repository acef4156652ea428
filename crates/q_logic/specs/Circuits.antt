-- Circuits as trees over inputs that are variables. (The gates are those of AIGER.)
use Rattle.std.specs.Prelude.{◌≡◌, ℕ, Bool, cond, not, ◌&&◌, eqb, ◌⊎◌}
use Rattle.q_logic.specs.Truth.{Assignment}

-- a circuit, with no parts shared
pub data Circuit : Type 0 where
  constant : Bool → Circuit
  input : ℕ → Circuit
  inverter : Circuit → Circuit
  conjunction : Circuit → Circuit → Circuit

-- its value under an assignment of the inputs
abbrev pub value_of : Circuit → Assignment → Bool
value_of (constant b) A = b
value_of (input u) A = A u
value_of (inverter t) A = not (value_of t A)
value_of (conjunction s t) A = value_of s A && value_of t A

-- the input u is a part of the circuit
abbrev pub Reads : Circuit → ℕ → Type 0
Reads (constant b) u = ⊥
Reads (input w) u = w ≡ u
Reads (inverter t) u = Reads t u
Reads (conjunction s t) u = Reads s u ⊎ Reads t u

-- by the law of De Morgan
abbrev pub disjunction : Circuit → Circuit → Circuit
disjunction s t = inverter (conjunction (inverter s) (inverter t))

-- the first where the input is true, and the second where it is false
abbrev pub choice : ℕ → Circuit → Circuit → Circuit
choice u s t = disjunction (conjunction (input u) s) (conjunction (inverter (input u)) t)

-- the circuit with s in place of the input u
abbrev pub replaced : ℕ → Circuit → Circuit → Circuit
replaced u s (constant b) = constant b
replaced u s (input w) = cond (eqb w u) s (input w)
replaced u s (inverter t) = inverter (replaced u s t)
replaced u s (conjunction t r) = conjunction (replaced u s t) (replaced u s r)
