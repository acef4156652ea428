-- Circuits of a resolution proof. (Balabanov, Jiang, "Unified QBF certification and its applications", Formal Methods in
-- System Design 41, 2012.)
use Rattle.std.specs.Prelude.{ℕ, ◌<◌, Bool, true, false, cond, not, ◌&&◌, eqb, List, [], ◌∷◌, ◌++◌, map, slice_get, Option, Some, None}
use Rattle.q_logic.specs.Literals.{Literal, negation}
use Rattle.q_logic.specs.Formulas.{Prefix, IsIn}
use Rattle.q_logic.specs.declared.formulas.Bound.{Bound}
use Rattle.q_logic.specs.Prefixes.{is_exists, place}
use Rattle.q_logic.specs.Truth.{Assignment, literal_true}
use Rattle.q_logic.specs.Sets.{has}
use Rattle.q_logic.specs.Circuits.{Circuit, constant, conjunction, disjunction, inverter}
use Rattle.q_logic.specs.Skolems.{Strategy}
use Rattle.q_logic.specs.Undos.{literal_circuit, with_circuit}
use Rattle.q_derive.specs.Derivations.{Term, Line, Reason, leaf, resolve, reduce}

-- a literal that a line takes away, and those that it keeps
pub record Drop : Type 0 where
  pub literal : Literal
  pub kept : Term

-- the literals of a line, if it is there
abbrev pub literals_of : Option Line → List Literal
literals_of None = []
literals_of (Some line) = line.literals

-- the literals of S that are not in T
abbrev pub drops_to : List Literal → List Literal → List Drop
drops_to [] T = []
drops_to (k ∷ S) T = cond (has k T) (drops_to S T) (record { literal = k; kept = T } ∷ drops_to S T)

-- the literals that a line with T takes away, by its reason
abbrev pub drops_by : List Line → List Literal → Reason → List Drop
drops_by lines T leaf = []
drops_by lines T (resolve i j k) = []
drops_by lines T (reduce i) = drops_to (literals_of (slice_get lines i)) T

-- those of the last lines
abbrev pub drops_in : List Line → List Line → List Drop
drops_in lines [] = []
drops_in lines (line ∷ last) = drops_by lines line.literals line.reason ++ drops_in lines last

-- all literals that are taken away, in the order of the lines
abbrev pub drops : List Line → List Drop
drops lines = drops_in lines lines

-- literals that one line takes away, which keeps T
abbrev pub drops_of : List Literal → List Literal → List Drop
drops_of [] T = []
drops_of (k ∷ S) T = record { literal = k; kept = T } ∷ drops_of S T

-- what is kept stands before what is taken away
abbrev pub IsBehind : Prefix → Drop → Type 0
IsBehind P d = (k : Literal) → IsIn k d.kept → place P k.var < place P d.literal.var

abbrev pub AreBehind : Prefix → List Drop → Type 0
AreBehind P ds = (d : Drop) → IsIn d ds → IsBehind P d

-- all literals of the term are true
abbrev pub every_circuit : Strategy → Term → Circuit
every_circuit c [] = constant true
every_circuit c (k ∷ T) = conjunction (literal_circuit c k) (every_circuit c T)

-- t, but the literal is made true where h is
abbrev pub made : Literal → Circuit → Circuit → Circuit
made k h t = cond k.negative (conjunction t (inverter h)) (disjunction t h)

-- the first drop of e whose kept literals are all true decides: its literal is made true. Where there is none, e is false
abbrev pub decided : Strategy → ℕ → List Drop → Circuit
decided c e [] = constant false
decided c e (d ∷ ds) =
    cond (eqb d.literal.var e) (made d.literal (every_circuit c d.kept) (decided c e ds)) (decided c e ds)

-- the circuits with one for the next variable, if it is an existential
abbrev pub with_next : List Drop → Strategy → Bound → Strategy
with_next ds c b = cond (is_exists b.quant) (with_circuit b.var (Some (decided c b.var ds)) c) c

-- the same for all variables of the prefix, one after the other
abbrev pub with_all : List Drop → Prefix → Strategy → Strategy
with_all ds [] c = c
with_all ds (b ∷ P) c = with_all ds P (with_next ds c b)

-- the circuits of the existentials, by the drops
abbrev pub circuits_by : Prefix → List Drop → Strategy
circuits_by P ds = with_all ds P (λ x. None)

-- the circuits of the existentials
abbrev pub circuits_of : Prefix → List Line → Strategy
circuits_of P lines = circuits_by P (drops lines)

-- each literal turned round
abbrev pub turned_all : List Literal → List Literal
turned_all T = map negation T

abbrev pub turned_reason : Reason → Reason
turned_reason leaf = leaf
turned_reason (resolve i j k) = resolve i j (negation k)
turned_reason (reduce i) = reduce i

-- a clause as the term that says that it is false
abbrev pub turned_line : Line → Line
turned_line line = record { literals = turned_all line.literals; reason = turned_reason line.reason }

abbrev pub turned : List Line → List Line
turned lines = map turned_line lines

-- a drop turned round
abbrev pub turned_drop : Drop → Drop
turned_drop d = record { literal = negation d.literal; kept = turned_all d.kept }

-- all literals of the term are true
abbrev pub term_true : Assignment → Term → Bool
term_true A [] = true
term_true A (k ∷ T) = literal_true A k && term_true A T

-- the value of e, where A gives the values of the variables before e
abbrev pub decision : Assignment → ℕ → List Drop → Bool
decision A e [] = false
decision A e (d ∷ ds) =
    cond (eqb d.literal.var e && term_true A d.kept) (not d.literal.negative) (decision A e ds)
