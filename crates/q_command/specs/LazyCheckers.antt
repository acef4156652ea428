-- Places for checkers: what is in one, and what it does.
use Rattle.std.specs.Prelude.{◌≡◌, ℕ, Bool, true, false, List, [], ◌∷◌, Option, None, Some, Result, IsSomeAnd, IfOk, IfErr, OnOk}
use Rattle.q_logic.specs.Prelude.{PrenexFormula, HintedValid, ProofPart, begun, hinted_after, plain, standard, AreAlike, SameFormula, ProofStep, Valid, after}
use Rattle.q_same_steps.specs.Making.{Applies}
use Rattle.q_same_steps.specs.HintedMaking.{HintedApplies}
use Rattle.q_shares.specs.Shares.{judged}
use Rattle.q_judge.specs.Tried.{IsEndRefusal}
use Rattle.q_judge.specs.declared.error.CheckError.{CheckError}
use Rattle.q_check.specs.Checked.{Checked, HasGrown, IsRefusal}
use Rattle.q_check.specs.HintChecks.{HintChecked, IsHintRefusal}
use Rattle.q_check.specs.Replays.{IsUnfitFor, IsHintUnfitFor}
use Rattle.q_check.specs.declared.checker.Verified.{Verified}

abbrev pub first_in : {X : Type 0} → List X → Option X
first_in [] = None
first_in (x ∷ xs) = Some x

-- the formula, where one is held
abbrev pub IsHeld : PrenexFormula → Option PrenexFormula → Type 0
IsHeld F None = Unit {0}
IsHeld F (Some G) = G ≡ F

abbrev pub hints_taken : Option HintChecked → ℕ
hints_taken None = 0
hints_taken (Some c) = c.steps

-- a checker of plain steps that has taken none
pub record IsNewPlain (keep : Bool) (F : PrenexFormula) (c : Checked) : Type 0 where
  pub alike : AreAlike F c.formula
  pub undo : c.undo ≡ []
  pub limits : c.limits ≡ standard
  pub keeps : c.keeps ≡ keep

-- a checker of steps with proof parts that has taken none
abbrev pub new_hinted : Bool → PrenexFormula → HintChecked
new_hinted keep F = record { formula = begun F; undo = []; limits = standard; keeps = keep; steps = 0 }

-- the checker that was here stands, and where none was there is a new one
abbrev pub IsReadyPlain : Bool → PrenexFormula → Option Checked → Option Checked → Type 0
IsReadyPlain keep F (Some c) new = new ≡ Some c
IsReadyPlain keep F None new = IsSomeAnd new (IsNewPlain keep F)

abbrev pub IsReadyHinted : Bool → PrenexFormula → Option HintChecked → Option HintChecked → Type 0
IsReadyHinted keep F (Some c) new = new ≡ Some c
IsReadyHinted keep F None new = new ≡ Some (new_hinted keep F)

-- no undo list is kept here
abbrev pub KeepsNone : Option Checked → Type 0
KeepsNone None = Unit {0}
KeepsNone (Some c) = c.keeps ≡ false

abbrev pub KeepsNoHinted : Option HintChecked → Type 0
KeepsNoHinted None = Unit {0}
KeepsNoHinted (Some c) = c.keeps ≡ false

-- what a checker answers to a plain step that it judges, or makes alone
pub record IsSteppedPlain (s : ProofStep) (t : Bool) (r : Result Unit CheckError) (old new : Checked) : Type 0 where
  pub valid : OnOk r (judged t (Valid old.limits old.formula s) (Applies old.limits old.formula s))
  pub after : OnOk r (AreAlike (after old.formula s) new.formula)
  pub undo : t ≡ true → OnOk r (HasGrown old.keeps old.formula s old.undo new.undo)
  pub limits : new.limits ≡ old.limits
  pub keeps : new.keeps ≡ old.keeps
  pub refused : IfErr r (λ e. judged t (IsRefusal old.limits old.formula s e) (IsUnfitFor old.limits old.formula s e))

-- what a checker answers to a step with a proof part that it judges, or makes alone
pub record IsSteppedHinted (s : ProofStep) (t : ProofPart) (b : Bool) (r : Result Unit CheckError) (old new : HintChecked) : Type 0 where
  pub valid : OnOk r (judged b (HintedValid old.limits old.formula s t) (HintedApplies old.limits old.formula s t))
  pub after : OnOk r (new.formula ≡ hinted_after old.formula s t)
  pub undo : b ≡ true → OnOk r (HasGrown old.keeps (plain old.formula) s old.undo new.undo)
  pub limits : new.limits ≡ old.limits
  pub keeps : new.keeps ≡ old.keeps
  pub refused : IfErr r (λ e. judged b (IsHintRefusal old.limits old.formula s t e) (IsHintUnfitFor old.limits old.formula s t e))

-- so does the checker that is here
abbrev pub HasSteppedPlain : ProofStep → Bool → Result Unit CheckError → Option Checked → Option Checked → Type 0
HasSteppedPlain s t r (Some c) (Some d) = IsSteppedPlain s t r c d
HasSteppedPlain s t r (Some c) None = ⊥
HasSteppedPlain s t r None new = ⊥

abbrev pub HasSteppedHinted : ProofStep → ProofPart → Bool → Result Unit CheckError → Option HintChecked → Option HintChecked → Type 0
HasSteppedHinted s t b r (Some c) (Some d) = IsSteppedHinted s t b r c d
HasSteppedHinted s t b r (Some c) None = ⊥
HasSteppedHinted s t b r None new = ⊥

-- what a checker says at the end
pub record IsEndedPlain (G : PrenexFormula) (r : Result Verified CheckError) (c : Checked) : Type 0 where
  pub same : OnOk r (SameFormula c.formula G)
  pub undo : IfOk r (λ v. v.undo ≡ c.undo)
  pub refused : IfErr r (IsEndRefusal c.formula G)

pub record IsEndedHinted (G : PrenexFormula) (r : Result Verified CheckError) (c : HintChecked) : Type 0 where
  pub same : OnOk r (SameFormula (plain c.formula) G)
  pub undo : IfOk r (λ v. v.undo ≡ c.undo)
  pub refused : IfErr r (IsEndRefusal (plain c.formula) G)
