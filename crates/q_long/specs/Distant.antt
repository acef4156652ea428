-- Long-distance resolution: two lines may hold different signs of a variable of the owner, if the pivot stands before it; the
-- resolvent holds both then. (Zhang, Malik, "Conflict Driven Learning in a Quantified Boolean Satisfiability Solver", ICCAD 2002;
-- Balabanov, Jiang, "Unified QBF certification and its applications", Formal Methods in System Design 41, 2012.)
use Rattle.std.specs.Prelude.{◌≡◌, ℕ, zero, suc, ◌<◌, Bool, true, false, cond, ◌&&◌, ◌||◌, List, [], ◌∷◌, ◌⊎◌, slice_get, Option, Some, None}
use Rattle.q_logic.specs.Literals.{Literal, negation}
use Rattle.q_logic.specs.Formulas.{Prefix, IsIn, PrenexFormula}
use Rattle.q_logic.specs.Prefixes.{is_existential, is_universal, place}
use Rattle.q_logic.specs.Circuits.{Circuit, constant}
use Rattle.q_logic.specs.Sets.{has}
use Rattle.q_logic.specs.Exchanging.{exchanged}
use Rattle.q_derive.specs.Derivations.{Line, Reason, leaf, resolve, reduce, IsBefore, IsRest, HasEmpty, IsHitting, HoldsClause}
use Rattle.q_derive.specs.Extracted.{literals_of}
use Rattle.q_derive.specs.Traces.{IsMerged, MayMerge}
use Rattle.q_long.specs.Valued.{Value, value_for, picked}
use Rattle.q_long.specs.Valued.{Line as ValuedLine}

-- the literal may be taken away: it is one of the owner, and each literal of T stands before it
pub record IsTaken (P : Prefix) (T : List Literal) (g : Literal) : Type 0 where
  pub owned : is_existential P g.var ≡ true
  pub behind : (k : Literal) → IsIn k T → place P k.var < place P g.var

-- each literal of S stays or may be taken away
abbrev pub IsReduced : Prefix → List Literal → List Literal → Type 0
IsReduced P S T = (g : Literal) → IsIn g S → IsIn g T ⊎ IsTaken P T g

-- the line with number n, which holds T, stands by its reason; the pivot is one of the opponent
abbrev pub Follows : Prefix → (List Literal → Type 0) → List Line → ℕ → List Literal → Reason → Type 0
Follows P L lines n T leaf = L T × ¬ IsMerged P T
Follows P L lines n T (resolve i j k) =
    (S : List Literal) × (U : List Literal) × IsBefore lines n i S × IsBefore lines n j U ×
    (is_universal P k.var ≡ true) × IsRest S k T × IsRest U (negation k) T × MayMerge P S U k
Follows P L lines n T (reduce i) = (S : List Literal) × IsBefore lines n i S × IsReduced P S T

-- each line stands by its reason; L says which lines may stand by themselves
abbrev pub IsLongDerivation : Prefix → (List Literal → Type 0) → List Line → Type 0
IsLongDerivation P L lines =
    (n : ℕ) → (line : Line) → slice_get lines n ≡ Some line → Follows P L lines n line.literals line.reason

-- a proof by long-distance term resolution that the formula is true
pub record IsLongTermProof (F : PrenexFormula) (lines : List Line) : Type 0 where
  pub follows : IsLongDerivation F.prefix (IsHitting F.matrix) lines
  pub ends : HasEmpty lines

-- a refutation by long-distance Q-resolution
pub record IsLongRefutation (F : PrenexFormula) (lines : List Line) : Type 0 where
  pub follows : IsLongDerivation (exchanged F.prefix) (HoldsClause F.matrix) lines
  pub ends : HasEmpty lines

abbrev pub positive : ℕ → Literal
positive x = record { var = x; negative = false }

abbrev pub negative : ℕ → Literal
negative x = record { var = x; negative = true }

-- the line holds the variable
abbrev pub holds : ℕ → List Literal → Bool
holds x T = has (positive x) T || has (negative x) T

-- the lines hold different signs of it
abbrev pub clash : ℕ → List Literal → List Literal → Bool
clash x S U = has (positive x) S && has (negative x) U || has (negative x) S && has (positive x) U

-- the value by which the line's literal of the variable is true
abbrev pub plain : ℕ → List Literal → Circuit
plain x T = constant (has (positive x) T)

-- what two lines with S and U say of the variable: where they hold different signs of it, the pivot chooses
abbrev pub merged : Literal → ℕ → List Literal → List Literal → List Literal → Circuit → Circuit → Circuit
merged k x S U T s t = cond (holds x S) (cond (clash x S U) (picked k s t) s) (cond (holds x U) t (plain x T))

-- what a line with T says of the variable; V has what the lines before say
abbrev pub said_by : List Line → (ℕ → ℕ → Circuit) → ℕ → List Literal → Reason → Circuit
said_by lines V x T leaf = plain x T
said_by lines V x T (resolve i j k) =
    merged k x (literals_of (slice_get lines i)) (literals_of (slice_get lines j)) T (V i x) (V j x)
said_by lines V x T (reduce i) = cond (holds x (literals_of (slice_get lines i))) (V i x) (plain x T)

abbrev pub said_at : List Line → (ℕ → ℕ → Circuit) → ℕ → Option Line → Circuit
said_at lines V x None = constant false
said_at lines V x (Some line) = said_by lines V x line.literals line.reason

-- what the line with number n says of the variable, by the m lines at most that stand above one another before it
abbrev pub said_within : List Line → ℕ → ℕ → ℕ → Circuit
said_within lines zero n x = constant false
said_within lines (suc m) n x = said_at lines (said_within lines m) x (slice_get lines n)

abbrev pub said : List Line → ℕ → ℕ → Circuit
said lines n x = said_within lines (suc n) n x

-- a literal as a value: one of the owner has what the line says of its variable
abbrev pub value_in : Prefix → List Line → ℕ → Literal → Value
value_in P lines n k = cond (is_existential P k.var) (record { var = k.var; circuit = said lines n k.var }) (value_for k)

abbrev pub values_in : Prefix → List Line → ℕ → List Literal → List Value
values_in P lines n [] = []
values_in P lines n (k ∷ T) = value_in P lines n k ∷ values_in P lines n T

-- the lines from the number n on, with their values
abbrev pub valued_from : Prefix → List Line → ℕ → List Line → List ValuedLine
valued_from P lines n [] = []
valued_from P lines n (line ∷ last) =
    record { values = values_in P lines n line.literals; reason = line.reason } ∷ valued_from P lines (suc n) last

abbrev pub valued : Prefix → List Line → List ValuedLine
valued P lines = valued_from P lines 0 lines
