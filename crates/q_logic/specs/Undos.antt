-- Undo lists, and how they carry Skolem functions back. (Heule, Seidl, Biere, "Solution Validation and
-- Extraction for QBF Preprocessing", Journal of Automated Reasoning 58, 2017.)
use Rattle.std.specs.Prelude.{◌≡◌, ℕ, Bool, true, false, cond, eqb, List, [], ◌∷◌, ◌++◌, ◌⊎◌, Option, Some, None}
use Rattle.q_logic.specs.Literals.{Literal, negation}
use Rattle.q_logic.specs.Formulas.{Clause, Matrix, Prefix, PrenexFormula}
use Rattle.q_logic.specs.Prefixes.{is_existential}
use Rattle.q_logic.specs.Circuits.{Circuit, disjunction, constant, inverter, conjunction}
use Rattle.q_logic.specs.Skolems.{Strategy, circuit_of}
use Rattle.q_logic.specs.Propagation.{Implied}
use Rattle.q_logic.specs.Pivots.{outer}
use Rattle.q_logic.specs.Sets.{has}
use Rattle.q_logic.specs.Runs.{copies}
use Rattle.q_logic.specs.Steps.{ProofStep, add, delete, drop_literal, fresh, remove_variable, one_less, after}

-- the circuit of a literal
abbrev pub literal_circuit : Strategy → Literal → Circuit
literal_circuit c k = cond k.negative (inverter (circuit_of c k.var)) (circuit_of c k.var)

-- some literal of the clause is true
abbrev pub some_of : Strategy → Clause → Circuit
some_of c [] = constant false
some_of c (k ∷ O) = disjunction (literal_circuit c k) (some_of c O)

-- each clause is true
abbrev pub all_of : Strategy → List Clause → Circuit
all_of c [] = constant true
all_of c (O ∷ outers) = conjunction (some_of c O) (all_of c outers)

-- the circuit joined with h for a positive pivot, or cut by h for a negative one
abbrev pub raised : Bool → Circuit → Option Circuit → Option Circuit
raised n h None = None
raised n h (Some t) = Some (cond n (conjunction t (inverter h)) (disjunction t h))

-- the pivot is made true where each outer clause is true
abbrev pub pivoted : Literal → List Clause → Strategy → Strategy
pivoted l outers c w = cond (eqb w l.var) (raised l.negative (all_of c outers) (c w)) (c w)

-- what has to be undone: a deletion by a pivot, with its outer clauses; the removal of an existential; a
-- fresh variable
pub data UndoEntry : Type 0 where
  pivot : Literal → List Clause → UndoEntry
  removed : ℕ → UndoEntry
  freshened : ℕ → UndoEntry

-- another circuit, or none, for v
abbrev pub with_circuit : ℕ → Option Circuit → Strategy → Strategy
with_circuit v o c x = cond (eqb x v) o (c x)

-- one entry undone
abbrev pub taken_back : UndoEntry → Strategy → Strategy
taken_back (pivot l outers) c = pivoted l outers c
taken_back (removed v) c = with_circuit v (Some (constant false)) c
taken_back (freshened v) c = with_circuit v None c

-- the entries undone from the last to the first
abbrev pub Back : List UndoEntry → Strategy → Strategy
Back [] c = c
Back (u ∷ us) c = taken_back u (Back us c)

-- the outer clauses on m of the clauses that hold it, one for each of these
abbrev pub every_outer : Prefix → Literal → Matrix → List Clause
every_outer P m [] = []
every_outer P m (D ∷ X) = cond (has m D) (outer P m D ∷ every_outer P m X) (every_outer P m X)

-- the same ones in any order, each as often
abbrev pub OutersOf : Prefix → Matrix → Literal → List Clause → Type 0
OutersOf P X m outers = (O : Clause) → copies O outers ≡ copies O (every_outer P m X)

-- the entry of a deletion by its first literal
abbrev pub PivotEntry : PrenexFormula → Option Literal → Clause → List UndoEntry → Type 0
PivotEntry F p C us =
    (l : Literal) × (outers : List Clause) × (p ≡ Some l) ×
    OutersOf F.prefix (one_less C F.matrix) (negation l) outers × (us ≡ pivot l outers ∷ [])

-- what one step puts into the undo list
abbrev pub Entries : PrenexFormula → ProofStep → List UndoEntry → Type 0
Entries F (add p C) us = us ≡ []
Entries F (delete p C) us =
    (Implied (one_less C F.matrix) C × (us ≡ [])) ⊎
    ((Implied (one_less C F.matrix) C → ⊥) × PivotEntry F p C us)
Entries F (drop_literal l C) us = us ≡ []
Entries F (fresh v w) us = us ≡ freshened v ∷ []
Entries F (remove_variable v) us = us ≡ cond (is_existential F.prefix v) (removed v ∷ []) []

-- the undo list of a run, in the order of its steps
abbrev pub Undos : PrenexFormula → List ProofStep → List UndoEntry → Type 0
Undos F [] us = us ≡ []
Undos F (s ∷ ss) us =
    (es : List UndoEntry) × (rest : List UndoEntry) × Entries F s es × Undos (after F s) ss rest ×
    (us ≡ es ++ rest)
