-- Derivations whose lines give values: what a line says of a variable is a circuit over the opponent's variables before it. The
-- owner's variables are the existentials of the prefix. (Such circuits are the merge maps of Beyersdorff, Blinkhorn, Mahajan,
-- "Building Strategies into QBF Proofs", Journal of Automated Reasoning 65, 2021.)
use Rattle.std.specs.Prelude.{◌≡◌, ℕ, ◌<◌, Bool, true, cond, not, ◌&&◌, List, [], ◌∷◌, map, ◌⊎◌, slice_get, Some}
use Rattle.q_logic.specs.Literals.{Literal, negation, bool_eq}
use Rattle.q_logic.specs.Formulas.{Prefix, IsIn}
use Rattle.q_logic.specs.Prefixes.{is_existential, universal_before, place}
use Rattle.q_logic.specs.Truth.{Assignment}
use Rattle.q_logic.specs.Circuits.{Circuit, constant, value_of, Reads, choice}
use Rattle.q_derive.specs.Derivations.{Reason, leaf, resolve, reduce}
use Rattle.q_derive.specs.Extracted.{turned_all}

-- a variable, and what a line says that it is
pub record Value : Type 0 where
  pub var : ℕ
  pub circuit : Circuit

-- the value by which a literal is true
abbrev pub value_for : Literal → Value
value_for k = record { var = k.var; circuit = constant (not k.negative) }

-- the variable has the value
abbrev pub has_value : Assignment → Value → Bool
has_value A v = bool_eq (A v.var) (value_of v.circuit A)

-- all variables have the values
abbrev pub have_all : Assignment → List Value → Bool
have_all A [] = true
have_all A (v ∷ T) = has_value A v && have_all A T

abbrev pub HaveAll : Assignment → List Value → Type 0
HaveAll A T = (v : Value) → IsIn v T → has_value A v ≡ true

-- a line of a derivation
pub record Line : Type 0 where
  pub values : List Value
  pub reason : Reason

-- the values of an earlier line
abbrev pub IsBefore : List Line → ℕ → ℕ → List Value → Type 0
IsBefore lines n i S = (line : Line) × (i < n) × (slice_get lines i ≡ Some line) × (line.values ≡ S)

-- s where the literal is true, and t where it is false
abbrev pub picked : Literal → Circuit → Circuit → Circuit
picked k s t = cond k.negative (choice k.var t s) (choice k.var s t)

-- the value stays, or it is merged with another one, by the literal
abbrev pub Stays : Literal → List Value → Value → Type 0
Stays k T v = IsIn v T ⊎ ((t : Circuit) × IsIn (record { var = v.var; circuit = picked k v.circuit t }) T)

-- each value of S but that of k stays
abbrev pub IsRest : List Value → Literal → List Value → Type 0
IsRest S k T = (v : Value) → IsIn v S → (v ≡ value_for k) ⊎ Stays k T v

-- the value may be taken away: its variable is an existential, S gives it no other value, and each variable of T stands before
-- it in the prefix
pub record IsTaken (P : Prefix) (S T : List Value) (g : Value) : Type 0 where
  pub owned : is_existential P g.var ≡ true
  pub alone : (v : Value) → IsIn v S → v.var ≡ g.var → v ≡ g
  pub behind : (v : Value) → IsIn v T → place P v.var < place P g.var

-- each value of S stays or may be taken away
abbrev pub IsReduced : Prefix → List Value → List Value → Type 0
IsReduced P S T = (g : Value) → IsIn g S → IsIn g T ⊎ IsTaken P S T g

-- the line with number n, which holds T, stands by its reason
abbrev pub Follows : Prefix → (List Value → Type 0) → List Line → ℕ → List Value → Reason → Type 0
Follows P L lines n T leaf = L T
Follows P L lines n T (resolve i j k) =
    (S : List Value) × (U : List Value) × IsBefore lines n i S × IsBefore lines n j U ×
    IsRest S k T × IsRest U (negation k) T
Follows P L lines n T (reduce i) = (S : List Value) × IsBefore lines n i S × IsReduced P S T

-- each value reads only universals that stand before its variable
abbrev pub AreLocal : Prefix → List Value → Type 0
AreLocal P T = (v : Value) → IsIn v T → (u : ℕ) → Reads v.circuit u → universal_before P u v.var ≡ true

-- each line stands by its reason; L says which lines may stand by themselves
pub record IsDerivation (P : Prefix) (L : List Value → Type 0) (lines : List Line) : Type 0 where
  pub local : (n : ℕ) → (line : Line) → slice_get lines n ≡ Some line → AreLocal P line.values
  pub follows : (n : ℕ) → (line : Line) → slice_get lines n ≡ Some line → Follows P L lines n line.values line.reason

-- the same where any line may stand by itself
abbrev pub IsAnyDerivation : Prefix → List Line → Type 0
IsAnyDerivation P lines = IsDerivation P (λ T. Unit {0}) lines

-- the values are those of a line that stands by itself
abbrev pub IsLeafOf : List Line → List Value → Type 0
IsLeafOf lines T = (n : ℕ) × (line : Line) × (slice_get lines n ≡ Some line) × (line.reason ≡ leaf) × (line.values ≡ T)

-- some line has no value
abbrev pub HasEmpty : List Line → Type 0
HasEmpty lines = (n : ℕ) × (line : Line) × (slice_get lines n ≡ Some line) × (line.values ≡ [])

-- the values by which all literals are true
abbrev pub values_for : List Literal → List Value
values_for T = map value_for T

-- the values are those of literals of this kind
abbrev pub AreOf : (List Literal → Type 0) → List Value → Type 0
AreOf L V = (T : List Literal) × L T × (V ≡ values_for T)

-- the literals are those of such a clause, turned round
abbrev pub IsTurned : (List Literal → Type 0) → List Literal → Type 0
IsTurned L T = (S : List Literal) × L S × (T ≡ turned_all S)
