-- What an annotator answers: proof parts that show the steps.
use Rattle.std.specs.Prelude.{◌≡◌, ℕ, List, [], ◌∷◌, ◌++◌, Bool, true, false, Option, None, Some, Result, Ok, Err}
use Rattle.q_logic.specs.declared.limits.Limits.{Limits}
use Rattle.q_logic.specs.declared.proof_part.ProofKind.TheVariants.{Nothing, Implied as ByHints, Pivot, Reach}
use Rattle.q_logic.specs.Prelude.{Literal, Clause, Prefix, IsIn, NumberedFormula, HintGroup, ProofPart, Resolved, Shows, ShowsPivot, ShowsDrop, HintedValid, hinted_after, plain, Slots, live, outer, Implied, ProofStep, add, delete, drop_literal, fresh, remove_variable, Cause, FirstPivot, IsWarranted, IsDroppable}
use Rattle.q_logic.specs.ProofParts.{hint_last}
use Rattle.q_judge.specs.declared.error.CheckError.{CheckError}
use Rattle.q_judge.specs.declared.error.CheckError.TheVariants.{Refused, NoMemory}

-- an annotator: the numbered formula, its limits, and the steps that were taken
pub record Annotating : Type 0 where
  pub formula : NumberedFormula
  pub limits : Limits
  pub steps : ℕ

-- more hints for the last group
abbrev pub hints_last : List ℕ → List HintGroup → List HintGroup
hints_last [] gs = gs
hints_last (n ∷ ns) gs = hints_last ns (hint_last n gs)

abbrev pub with_hints : List ℕ → ProofPart → ProofPart
with_hints ns t = record t { groups = hints_last ns t.groups }

-- one more group with its hints
abbrev pub with_hinted_group : ℕ → List ℕ → ProofPart → ProofPart
with_hinted_group target hints t =
    record t { groups = t.groups ++ record { target = target; hints = hints } ∷ [] }

-- the clauses that hold m resolve by the groups, or one of them does not
abbrev pub IsResolved : Prefix → Slots → Clause → Literal → ProofPart → Bool → Type 0
IsResolved P N base m t true = Resolved P N base m t.groups
IsResolved P N base m t false =
    ¬ ((D : Clause) → IsIn D (live N) → IsIn m D → Implied (live N) (base ++ outer P m D))

-- the first literal is shown to be a pivot, or it is none
abbrev pub IsByPivot : Prefix → Slots → Clause → Option Literal → ℕ → Option ProofPart → Type 0
IsByPivot P N C p n (Some t) = (t.number ≡ n) × (t.kind ≡ Pivot) × ShowsPivot P N C p t.groups
IsByPivot P N C p n None = ¬ FirstPivot P (live N) C p

-- why a clause may come or go, beside the clauses N, is shown, or it may not
abbrev pub IsShown : Prefix → Slots → Clause → Option Literal → ℕ → Result ProofPart CheckError → Type 0
IsShown P N C p n (Ok t) = (t.number ≡ n) × Shows P N C p t
IsShown P N C p n (Err (Refused k)) = (k ≡ 4) × ¬ IsWarranted P (live N) C p
IsShown P N C p n (Err NoMemory) = Unit {0}

-- why a clause may lose a literal is shown, or it may not
abbrev pub IsDropShown : Prefix → Slots → Clause → Literal → ℕ → Result ProofPart CheckError → Type 0
IsDropShown P N C l n (Ok t) = (t.number ≡ n) × ShowsDrop P N C l t × (t.kind ≡ Reach → t.groups ≡ [])
IsDropShown P N C l n (Err (Refused k)) = (k ≡ 5) × ¬ IsDroppable P (live N) C l
IsDropShown P N C l n (Err NoMemory) = Unit {0}

-- what a proof part has beside what shows the step: nothing that is not asked for
abbrev pub HasForm : ProofStep → ProofPart → Type 0
HasForm (add p C) t = t.number ≡ 0
HasForm (delete p C) t = Unit {0}
HasForm (drop_literal l C) t = t.kind ≡ Reach → t.groups ≡ []
HasForm (fresh v w) t = t ≡ record { kind = Nothing; number = 0; groups = [] }
HasForm (remove_variable v) t = t ≡ record { kind = Nothing; number = 0; groups = [] }

-- a step was tried on F, and G is there now
abbrev pub IsAnnotated : Limits → NumberedFormula → ProofStep → NumberedFormula → Result ProofPart CheckError → Type 0
IsAnnotated m F s G (Ok t) = HintedValid m F s t × (G ≡ hinted_after F s t) × HasForm s t
IsAnnotated m F s G (Err NoMemory) = G ≡ F
IsAnnotated m F s G (Err (Refused n)) = (G ≡ F) × Cause m (plain F) s n

-- hints for one clause that is implied
abbrev pub implied_part : ℕ → List ℕ → ProofPart
implied_part n hints =
    record { kind = ByHints; number = n; groups = record { target = 0; hints = hints } ∷ [] }

-- the number of a step's clause, 0 where there is none
abbrev pub number_in : Option ℕ → ℕ
number_in None = 0
number_in (Some n) = n
