-- Reversals, and how they carry Herbrand functions from the end of a run to its beginning. (This project's own, the dual
-- of undo lists.)
use Rattle.std.specs.Prelude.{◌≡◌, ℕ, true, false, cond, not, eqb, List, [], ◌∷◌, ◌++◌, ◌⊎◌, Option, Some}
use Rattle.q_logic.specs.Literals.{Literal, negation}
use Rattle.q_logic.specs.Formulas.{Clause, Prefix, IsIn, PrenexFormula}
use Rattle.q_logic.specs.Prefixes.{is_existential, is_universal, outer_or_same}
use Rattle.q_logic.specs.Circuits.{Circuit, disjunction, constant, input, inverter, conjunction}
use Rattle.q_logic.specs.Skolems.{Strategy, reread}
use Rattle.q_logic.specs.Propagation.{Implied}
use Rattle.q_logic.specs.Pivots.{outer, ForallPivot}
use Rattle.q_logic.specs.Sets.{IsTautology}
use Rattle.q_logic.specs.Steps.{ProofStep, add, delete, drop_literal, fresh, remove_variable, one_less, after}
use Rattle.q_logic.specs.Undos.{literal_circuit, all_of, raised, pivoted, with_circuit, OutersOf}

-- the input of l's variable, where h holds with the value that makes l true: `v or h`, for negative l `v and not h`
abbrev pub lifted : Literal → Circuit → Circuit
lifted l h = cond l.negative (conjunction (input l.var) (inverter h)) (disjunction (input l.var) h)

-- the negations of all literals are true
abbrev pub none_of : Strategy → Clause → Circuit
none_of c [] = constant true
none_of c (k ∷ C) = conjunction (inverter (literal_circuit c k)) (none_of c C)

-- where q holds, the literal gets false
abbrev pub lowered_one : Circuit → Literal → Strategy → Strategy
lowered_one q k c w = cond (eqb w k.var) (raised (not k.negative) q (c w)) (c w)

-- where q holds, each literal gets false
abbrev pub lowered_by : Circuit → List Literal → Strategy → Strategy
lowered_by q [] c = c
lowered_by q (k ∷ ks) c = lowered_one q k (lowered_by q ks c)

-- the literals of C whose variable is inner to the one of l
abbrev pub inner : Prefix → Literal → Clause → Clause
inner P l [] = []
inner P l (k ∷ C) = cond (outer_or_same P k.var l.var) (inner P l C) (k ∷ inner P l C)

-- what is carried over: an addition by its pivot; a drop by a universal pivot; a plain drop; a fresh variable; the
-- removal of a universal
pub data Reversal : Type 0 where
  added : Literal → List Clause → Reversal
  turned : Literal → List Clause → Reversal
  plain : Literal → Clause → Clause → Reversal
  freshened : ℕ → Reversal
  removed : ℕ → Reversal

-- one entry
abbrev pub carried : Reversal → Strategy → Strategy
carried (added l outers) c = reread l.var (lifted l (all_of c outers)) c
carried (turned l outers) c = pivoted (negation l) outers c
carried (plain l same within) c = lowered_by (none_of c same) (l ∷ within) c
carried (freshened v) c = reread v (constant false) c
carried (removed v) c = with_circuit v (Some (constant false)) c

-- the entries from the last to the first
abbrev pub Forth : List Reversal → Strategy → Strategy
Forth [] c = c
Forth (r ∷ rs) c = carried r (Forth rs c)

-- no existential of C is inner to l, and C does not hold the negation of l
pub record IsPlainDrop (P : Prefix) (C : Clause) (l : Literal) : Type 0 where
  pub no_inner : (k : Literal) → IsIn k C → is_existential P k.var ≡ true → outer_or_same P k.var l.var ≡ true
  pub not_negated : IsIn (negation l) C → ⊥

-- a drop that is neither plain nor by a universal pivot: Herbrand functions are not carried over it
abbrev pub IsExtended : PrenexFormula → ProofStep → Type 0
IsExtended F (add p C) = ⊥
IsExtended F (delete p C) = ⊥
IsExtended F (drop_literal l C) =
    ¬ ForallPivot F.prefix (one_less C F.matrix) C l × ¬ IsPlainDrop F.prefix C l
IsExtended F (fresh v w) = ⊥
IsExtended F (remove_variable v) = ⊥

-- the entry of an addition by its first literal
abbrev pub AddedEntry : PrenexFormula → Option Literal → List Reversal → Type 0
AddedEntry F p rs =
    (l : Literal) × (outers : List Clause) × (p ≡ Some l) ×
    OutersOf F.prefix F.matrix (negation l) outers × (rs ≡ added l outers ∷ [])

-- the entry of a drop by a universal pivot
abbrev pub TurnedEntry : PrenexFormula → Literal → Clause → List Reversal → Type 0
TurnedEntry F l C rs =
    (outers : List Clause) × OutersOf F.prefix (one_less C F.matrix) (negation l) outers ×
    (rs ≡ turned l outers ∷ [])

-- what a plain drop without a pivot leaves: nothing where the clause is a tautology
abbrev pub PlainEntry : PrenexFormula → Literal → Clause → List Reversal → Type 0
PlainEntry F l C rs =
    (IsTautology C × (rs ≡ [])) ⊎
    (¬ IsTautology C × (rs ≡ plain l (outer F.prefix l C) (inner F.prefix l C) ∷ []))

-- what one step that is not extended puts into the list
abbrev pub Reversed : PrenexFormula → ProofStep → List Reversal → Type 0
Reversed F (add p C) rs =
    (Implied F.matrix C × (rs ≡ [])) ⊎ (¬ Implied F.matrix C × AddedEntry F p rs)
Reversed F (delete p C) rs = rs ≡ []
Reversed F (drop_literal l C) rs =
    (ForallPivot F.prefix (one_less C F.matrix) C l × TurnedEntry F l C rs) ⊎
    (¬ ForallPivot F.prefix (one_less C F.matrix) C l × IsPlainDrop F.prefix C l × PlainEntry F l C rs)
Reversed F (fresh v w) rs = rs ≡ freshened v ∷ []
Reversed F (remove_variable v) rs = rs ≡ cond (is_universal F.prefix v) (removed v ∷ []) []

-- the reversals of steps none of which is extended, in their order
abbrev pub Reversals : PrenexFormula → List ProofStep → List Reversal → Type 0
Reversals F [] rs = rs ≡ []
Reversals F (s ∷ ss) rs =
    (es : List Reversal) × (rest : List Reversal) × Reversed F s es × Reversals (after F s) ss rest ×
    (rs ≡ es ++ rest)

-- no step on the way is an extended drop
abbrev pub NoneExtended : PrenexFormula → List ProofStep → Type 0
NoneExtended F [] = Unit {0}
NoneExtended F (s ∷ ss) = ¬ IsExtended F s × NoneExtended (after F s) ss
