-- Skolem functions as circuits. (Heule, Seidl, Biere, "Solution Validation and Extraction for QBF
-- Preprocessing", Journal of Automated Reasoning 58, 2017.)
use Rattle.std.specs.Prelude.{◌≡◌, ℕ, Bool, true, false, Option, Some, None}
use Rattle.q_logic.specs.Formulas.{Matrix, Prefix, PrenexFormula}
use Rattle.q_logic.specs.Prefixes.{is_existential, universal_before}
use Rattle.q_logic.specs.Truth.{Assignment, MatrixTrue}
use Rattle.q_logic.specs.Circuits.{Circuit, value_of, Reads, input, replaced}

-- a circuit or none for each variable
abbrev pub Strategy : Type 0
Strategy = ℕ → Option Circuit

-- a variable without a circuit is read as an input
abbrev pub or_input : ℕ → Option Circuit → Circuit
or_input x None = input x
or_input x (Some t) = t

-- what stands for the variable
abbrev pub circuit_of : Strategy → ℕ → Circuit
circuit_of c x = or_input x (c x)

-- each variable with a circuit gets its value
abbrev pub outcome : Strategy → Assignment → Assignment
outcome c A x = value_of (circuit_of c x) A

-- whether there is a circuit
abbrev pub given : Option Circuit → Bool
given None = false
given (Some t) = true

-- the function on the circuit, if there is one
abbrev pub map_circuit : (Circuit → Circuit) → Option Circuit → Option Circuit
map_circuit f None = None
map_circuit f (Some t) = Some (f t)

-- each circuit with s in place of the input u
abbrev pub reread : ℕ → Circuit → Strategy → Strategy
reread u s c x = map_circuit (replaced u s) (c x)

-- the circuit where the test holds, and else none
abbrev pub where_true : Bool → Circuit → Option Circuit
where_true true t = Some t
where_true false t = None

-- circuits of all variables, as those of the existentials alone
abbrev pub strategy_of : Prefix → (ℕ → Circuit) → Strategy
strategy_of P c x = where_true (is_existential P x) (c x)

-- a circuit for each existential and for no other variable, which reads only universals that stand before
-- its own variable
pub record Lawful (P : Prefix) (c : Strategy) : Type 0 where
  pub trees : (x : ℕ) → given (c x) ≡ is_existential P x
  pub reads : (x : ℕ) → is_existential P x ≡ true → (u : ℕ) → Reads (circuit_of c x) u →
      universal_before P u x ≡ true

-- lawful circuits that make each clause true, whatever the universals are
pub record Skolem (P : Prefix) (X : Matrix) (c : Strategy) : Type 0 where
  pub lawful : Lawful P c
  pub open lawful use *
  pub wins : (A : Assignment) → MatrixTrue (outcome c A) X

-- Skolem functions of a formula
abbrev pub SkolemOf : PrenexFormula → Strategy → Type 0
SkolemOf F c = Skolem F.prefix F.matrix c
