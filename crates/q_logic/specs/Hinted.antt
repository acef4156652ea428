-- Steps with proof parts, over numbered formulas, and runs of them. (This project's own.)
use Rattle.std.specs.Prelude.{◌≡◌, ◌<◌, ℕ, ◌+◌, cond, true, false, List, [], ◌∷◌, ◌++◌, ◌⊎◌, map, Option, Some, None}
use Rattle.q_logic.specs.declared.limits.Limits.{Limits}
use Rattle.q_logic.specs.Limits.{standard}
use Rattle.q_logic.specs.Literals.{Literal, negation}
use Rattle.q_logic.specs.Formulas.{Clause, Matrix, Prefix, IsIn, PrenexFormula}
use Rattle.q_logic.specs.Numbered.{Slots, slot, set_slot, live, numbered, formula_of}
use Rattle.q_logic.specs.Prefixes.{is_existential, is_universal, is_bound}
use Rattle.q_logic.specs.Pivots.{outer, without}
use Rattle.q_logic.specs.Reach.{Reducible}
use Rattle.q_logic.specs.Runs.{SameFormula}
use Rattle.q_logic.specs.Sets.{has}
use Rattle.q_logic.specs.Steps.{ProofStep, add, delete, drop_literal, fresh, remove_variable, Within, KeepsLimits, IsFresh, IsAbsent, insert_after, removed_from}
use Rattle.q_logic.specs.declared.proof_part.ProofKind.{ProofKind}
use Rattle.q_logic.specs.declared.proof_part.ProofKind.TheVariants.{Nothing, Implied, Pivot, Reach}
use Rattle.q_logic.specs.Hints.{Chained}

-- a formula whose clauses have numbers; the next number is one that was never given
pub record NumberedFormula : Type 0 where
  pub prefix : Prefix
  pub slots : Slots

-- the clauses of a formula are numbered from 1 on
abbrev pub begun : PrenexFormula → NumberedFormula
begun F = record { prefix = F.prefix; slots = None ∷ numbered F.matrix }

-- the formula without its numbers
abbrev pub plain : NumberedFormula → PrenexFormula
plain F = formula_of F.prefix (live F.slots)

-- the clauses without one of them
abbrev pub beside : ℕ → NumberedFormula → Slots
beside n F = set_slot n None F.slots

-- hints for one clause
pub record HintGroup : Type 0 where
  pub target : ℕ
  pub hints : List ℕ

-- the proof part of a step
pub record ProofPart : Type 0 where
  pub kind : ProofKind
  pub number : ℕ
  pub groups : List HintGroup

-- the numbers, counted from n on, of the clauses that hold the literal
abbrev pub numbers_with : Literal → ℕ → Slots → List ℕ
numbers_with m n [] = []
numbers_with m n (None ∷ N) = numbers_with m (n + 1) N
numbers_with m n (Some D ∷ N) = cond (has m D) (n ∷ numbers_with m (n + 1) N) (numbers_with m (n + 1) N)

-- each clause that holds m has one group, whose hints show the literals joined with its outer clause
pub record Resolved (P : Prefix) (N : Slots) (base : Clause) (m : Literal) (gs : List HintGroup) : Type 0 where
  pub targets : map (λ g. g.target) gs ≡ numbers_with m 0 N
  pub each : (g : HintGroup) → IsIn g gs → (D : Clause) → slot N g.target ≡ Some D →
      Chained N (base ++ outer P m D) g.hints

-- one group of hints shows that the clause is implied
abbrev pub ShowsImplied : Slots → Clause → List HintGroup → Type 0
ShowsImplied N C gs = (hints : List ℕ) × (gs ≡ record { target = 0; hints = hints } ∷ []) × Chained N C hints

-- the first literal is shown to be an existential pivot
abbrev pub ShowsPivot : Prefix → Slots → Clause → Option Literal → List HintGroup → Type 0
ShowsPivot P N C p gs =
    (l : Literal) × (p ≡ Some l) × (is_existential P l.var ≡ true) × IsIn l C × Resolved P N C (negation l) gs

-- the literal is shown to be a universal pivot
abbrev pub ShowsForall : Prefix → Slots → Clause → Literal → List HintGroup → Type 0
ShowsForall P N C l gs =
    (is_universal P l.var ≡ true) × IsIn l C × (¬ IsIn (negation l) C) ×
    Resolved P N (without l C) (negation l) gs

-- a proof part shows why a clause may come or go, beside the clauses N
abbrev pub Shows : Prefix → Slots → Clause → Option Literal → ProofPart → Type 0
Shows P N C p t =
    ((t.kind ≡ Implied) × ShowsImplied N C t.groups) ⊎ ((t.kind ≡ Pivot) × ShowsPivot P N C p t.groups)

-- a proof part shows why a clause may lose a literal
abbrev pub ShowsDrop : Prefix → Slots → Clause → Literal → ProofPart → Type 0
ShowsDrop P N C l t =
    ((t.kind ≡ Pivot) × ShowsForall P N C l t.groups) ⊎ ((t.kind ≡ Reach) × Reducible P (live N) C l)

-- no proof part of its kind shows that the clause may lose the literal
abbrev pub IsUndroppable : Prefix → Matrix → Clause → Literal → ProofPart → Type 0
IsUndroppable P X C l t =
    (is_universal P l.var ≡ false) ⊎ ((t.kind ≡ Reach) × ¬ Reducible P X C l)

-- a valid step, as its proof part shows
abbrev pub HintedValid : Limits → NumberedFormula → ProofStep → ProofPart → Type 0
HintedValid m F (add p C) t =
    Within F.prefix C × Shows F.prefix F.slots C p t × KeepsLimits m (C ∷ live F.slots)
HintedValid m F (delete p C) t =
    Within F.prefix C × (slot F.slots t.number ≡ Some C) × Shows F.prefix (beside t.number F) C p t
HintedValid m F (drop_literal l C) t =
    Within F.prefix C × (slot F.slots t.number ≡ Some C) × ShowsDrop F.prefix (beside t.number F) C l t
HintedValid m F (fresh v w) t = IsFresh m F.prefix v w × (t.kind ≡ Nothing)
HintedValid m F (remove_variable v) t =
    (is_bound F.prefix v ≡ true) × IsAbsent (live F.slots) v × (t.kind ≡ Nothing)

-- the formula after a step: a new clause has the next number, and a shorter one keeps its own
abbrev pub hinted_after : NumberedFormula → ProofStep → ProofPart → NumberedFormula
hinted_after F (add p C) t = record { prefix = F.prefix; slots = F.slots ++ Some C ∷ [] }
hinted_after F (delete p C) t = record { prefix = F.prefix; slots = beside t.number F }
hinted_after F (drop_literal l C) t =
    record { prefix = F.prefix; slots = set_slot t.number (Some (without l C)) F.slots }
hinted_after F (fresh v w) t = record { prefix = insert_after w v F.prefix; slots = F.slots }
hinted_after F (remove_variable v) t = record { prefix = removed_from v F.prefix; slots = F.slots }

-- a step with its proof part
pub record Hinted : Type 0 where
  pub step : ProofStep
  pub proof : ProofPart

-- the steps without their proof parts
abbrev pub strip : List Hinted → List ProofStep
strip [] = []
strip (h ∷ hs) = h.step ∷ strip hs

-- the steps are valid one after the other, and E is the last formula
abbrev pub HintedSteps : Limits → NumberedFormula → List Hinted → NumberedFormula → Type 0
HintedSteps m F [] E = F ≡ E
HintedSteps m F (h ∷ hs) E =
    HintedValid m F h.step h.proof × HintedSteps m (hinted_after F h.step h.proof) hs E

-- the steps lead from F to a formula with the blocks and the clauses of G
pub record HintedRun (F : PrenexFormula) (hs : List Hinted) (G : PrenexFormula) : Type 0 where
  pub last : NumberedFormula
  pub steps : HintedSteps standard (begun F) hs last
  pub same : SameFormula (plain last) G

-- what is wrong with a step and its proof part, by number; 12 is a proof part that does not show the step
abbrev pub IsHintedWrong : Limits → NumberedFormula → ProofStep → ProofPart → ℕ → Type 0
IsHintedWrong m F (add p C) t n =
    ((n ≡ 2) × ¬ Within F.prefix C) ⊎ ((n ≡ 8) × ¬ KeepsLimits m (C ∷ live F.slots)) ⊎
    ((n ≡ 12) × ¬ Shows F.prefix F.slots C p t)
IsHintedWrong m F (delete p C) t n =
    ((n ≡ 2) × ¬ Within F.prefix C) ⊎ ((n ≡ 3) × ¬ (slot F.slots t.number ≡ Some C)) ⊎
    ((n ≡ 12) × ¬ Shows F.prefix (beside t.number F) C p t)
IsHintedWrong m F (drop_literal l C) t n =
    ((n ≡ 2) × ¬ Within F.prefix C) ⊎ ((n ≡ 3) × ¬ (slot F.slots t.number ≡ Some C)) ⊎
    ((n ≡ 5) × IsUndroppable F.prefix (live (beside t.number F)) C l t) ⊎
    ((n ≡ 12) × ¬ ShowsDrop F.prefix (beside t.number F) C l t)
IsHintedWrong m F (fresh v w) t n =
    ((n ≡ 6) × ¬ IsFresh m F.prefix v w) ⊎ ((n ≡ 12) × ¬ (t.kind ≡ Nothing))
IsHintedWrong m F (remove_variable v) t n =
    ((n ≡ 2) × (is_bound F.prefix v ≡ false)) ⊎ ((n ≡ 7) × ¬ IsAbsent (live F.slots) v) ⊎
    ((n ≡ 12) × ¬ (t.kind ≡ Nothing))

-- the least number that applies
pub record HintedCause (m : Limits) (F : NumberedFormula) (s : ProofStep) (t : ProofPart) (n : ℕ) : Type 0 where
  pub applies : IsHintedWrong m F s t n
  pub least : (k : ℕ) → k < n → ¬ IsHintedWrong m F s t k
