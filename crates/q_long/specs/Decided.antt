-- Circuits of a derivation whose lines give values. (Balabanov, Jiang, Janota, Widl, "Efficient Extraction of QBF (Counter)models
-- from Long-Distance Resolution Proofs", AAAI 2015.)
use Rattle.std.specs.Prelude.{ℕ, ◌<◌, Bool, true, false, cond, ◌&&◌, ◌||◌, eqb, List, [], ◌∷◌, ◌++◌, slice_get, Option, Some, None}
use Rattle.q_logic.specs.declared.formulas.Bound.{Bound}
use Rattle.q_logic.specs.Formulas.{Prefix, IsIn}
use Rattle.q_logic.specs.Prefixes.{is_exists, place}
use Rattle.q_logic.specs.Truth.{Assignment}
use Rattle.q_logic.specs.Circuits.{Circuit, constant, conjunction, disjunction, inverter, value_of}
use Rattle.q_logic.specs.Skolems.{Strategy, circuit_of}
use Rattle.q_logic.specs.Undos.{with_circuit}
use Rattle.q_derive.specs.Derivations.{Reason, leaf, resolve, reduce}
use Rattle.q_long.specs.Valued.{Value, Line, have_all, AreLocal}

-- a value that a line takes away, and those that it keeps
pub record Drop : Type 0 where
  pub value : Value
  pub kept : List Value

-- the values of a line, if it is there
abbrev pub values_of : Option Line → List Value
values_of None = []
values_of (Some line) = line.values

-- T gives the variable a value
abbrev pub gives : ℕ → List Value → Bool
gives x [] = false
gives x (v ∷ T) = eqb v.var x || gives x T

-- the values of S whose variables have none in T
abbrev pub drops_to : List Value → List Value → List Drop
drops_to [] T = []
drops_to (v ∷ S) T = cond (gives v.var T) (drops_to S T) (record { value = v; kept = T } ∷ drops_to S T)

-- the values that a line with T takes away, by its reason
abbrev pub drops_by : List Line → List Value → Reason → List Drop
drops_by lines T leaf = []
drops_by lines T (resolve i j k) = []
drops_by lines T (reduce i) = drops_to (values_of (slice_get lines i)) T

-- those of the last lines
abbrev pub drops_in : List Line → List Line → List Drop
drops_in lines [] = []
drops_in lines (line ∷ last) = drops_by lines line.values line.reason ++ drops_in lines last

-- all values that are taken away, in the order of the lines
abbrev pub drops : List Line → List Drop
drops lines = drops_in lines lines

-- values that one line takes away, which keeps T
abbrev pub drops_of : List Value → List Value → List Drop
drops_of [] T = []
drops_of (v ∷ S) T = record { value = v; kept = T } ∷ drops_of S T

-- both are true or both are false
abbrev pub alike : Circuit → Circuit → Circuit
alike s t = disjunction (conjunction s t) (conjunction (inverter s) (inverter t))

-- all variables have the values
abbrev pub every_circuit : Strategy → List Value → Circuit
every_circuit c [] = constant true
every_circuit c (v ∷ T) = conjunction (alike (circuit_of c v.var) v.circuit) (every_circuit c T)

-- s where h is true, and t where it is false
abbrev pub either : Circuit → Circuit → Circuit → Circuit
either h s t = disjunction (conjunction h s) (conjunction (inverter h) t)

-- the first drop of e whose kept values all are so decides: e has its value. Where there is none, e is false
abbrev pub decided : List Drop → Strategy → ℕ → Circuit
decided [] c e = constant false
decided (d ∷ ds) c e =
    cond (eqb d.value.var e) (either (every_circuit c d.kept) d.value.circuit (decided ds c e)) (decided ds c e)

-- the circuits with one for the next variable, if it is an existential
abbrev pub with_next : (Strategy → ℕ → Circuit) → Strategy → Bound → Strategy
with_next F c b = cond (is_exists b.quant) (with_circuit b.var (Some (F c b.var)) c) c

-- the same for all variables of the prefix, one after the other
abbrev pub with_all : (Strategy → ℕ → Circuit) → Prefix → Strategy → Strategy
with_all F [] c = c
with_all F (b ∷ P) c = with_all F P (with_next F c b)

-- the circuits of the existentials, by the drops
abbrev pub circuits_by : Prefix → List Drop → Strategy
circuits_by P ds = with_all (decided ds) P (λ x. None)

-- the circuits of the existentials
abbrev pub circuits_of : Prefix → List Line → Strategy
circuits_of P lines = circuits_by P (drops lines)

-- what is kept stands before what is taken away, and no value reads more than what stands before its variable
pub record IsBehind (P : Prefix) (d : Drop) : Type 0 where
  pub behind : (v : Value) → IsIn v d.kept → place P v.var < place P d.value.var
  pub local : AreLocal P d.kept
  pub itself : AreLocal P (d.value ∷ [])

abbrev pub AreBehind : Prefix → List Drop → Type 0
AreBehind P ds = (d : Drop) → IsIn d ds → IsBehind P d

-- the value of e, where A gives the values of the variables before e
abbrev pub decision : Assignment → ℕ → List Drop → Bool
decision A e [] = false
decision A e (d ∷ ds) =
    cond (eqb d.value.var e && have_all A d.kept) (value_of d.value.circuit A) (decision A e ds)
