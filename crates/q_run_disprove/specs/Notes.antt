-- What is kept of a run for circuits.
use Rattle.std.specs.Prelude.{◌≡◌, ◌++◌, ℕ, Bool, true, false, List, [], ◌∷◌}
use Rattle.q_logic.specs.Prelude.{PrenexFormula, AreAlike, ProofStep, after, standard}
use Rattle.q_logic.specs.Reversals.{IsExtended}
use Rattle.q_log.specs.Logs.{Parsed}
use Rattle.q_shares.specs.Shares.{Share}
use Rattle.q_refutation.specs.Refutations.{IsLost, MayBeMade}
use Rattle.q_refutation.specs.SharedRefutations.{AreTakenUnlost}
use Rattle.q_herbrand.specs.Trails.{HasMade, Trailed}
use Rattle.q_command.specs.Logs.{Entry, steps_of}
use Rattle.q_command.specs.Parts.{IsWhole, share_of}
use Rattle.q_command.specs.declared.part.Part.{Part}
use Rattle.q_run_disprove.specs.Extended.{FirstExtended}
use Rattle.q_run_disprove.specs.declared.disproved.Disproved.{Disproved}
use Rattle.q_run_disprove.specs.declared.disproved.Disproved.TheVariants as outcome
use Rattle.q_run_disprove.specs.declared.notes.Notes.{Notes}
use Rattle.q_run_disprove.specs.declared.notes.Notes.TheVariants as notes

-- the next step may be made, where notes are kept
abbrev pub MayBeNoted : Notes → ProofStep → Type 0
MayBeNoted notes.Unkept s = Unit {0}
MayBeNoted (notes.Kept F t) s = MayBeMade false standard t.formula s
MayBeNoted (notes.Extended line) s = Unit {0}

-- a trail has one step more
pub record HasGrown (s : ProofStep) (old new : Trailed) : Type 0 where
  pub formula : AreAlike (after old.formula s) new.formula
  pub made : (F : PrenexFormula) → (ss : List ProofStep) → HasMade F ss old → HasMade F (ss ++ s ∷ []) new

-- what a step of this line leaves of them
abbrev pub IsNoted : ℕ → ProofStep → Notes → Notes → Type 0
IsNoted line s notes.Unkept new = new ≡ notes.Unkept
IsNoted line s (notes.Kept F t) notes.Unkept = ⊥
IsNoted line s (notes.Kept F t) (notes.Kept G u) = (G ≡ F) × HasGrown s t u
IsNoted line s (notes.Kept F t) (notes.Extended l) = IsExtended t.formula s × (l ≡ line)
IsNoted line s (notes.Extended l) new = new ≡ notes.Extended l

-- those of no step
abbrev pub AreBegun : Bool → PrenexFormula → Notes → Type 0
AreBegun keeps F notes.Unkept = keeps ≡ false
AreBegun keeps F (notes.Kept G t) = (keeps ≡ true) × (G ≡ F) × AreAlike F t.formula × HasMade F [] t
AreBegun keeps F (notes.Extended line) = ⊥

-- those of these steps from F on
abbrev pub AreNotes : Bool → PrenexFormula → List Entry → Notes → Type 0
AreNotes keeps F es notes.Unkept = keeps ≡ false
AreNotes keeps F es (notes.Kept G t) = (G ≡ F) × HasMade F (steps_of es) t
AreNotes keeps F es (notes.Extended line) = FirstExtended F es line

-- where reversals are noted all steps are judged here, some steps lead to the formula of the trail, and this one is alike
abbrev pub AreAbreast : Part → PrenexFormula → Notes → Type 0
AreAbreast part E notes.Unkept = Unit {0}
AreAbreast part E (notes.Kept F t) =
    IsWhole (share_of part) × AreAlike E t.formula × ((ss : List ProofStep) × HasMade F ss t)
AreAbreast part E (notes.Extended line) = Unit {0}

-- where the formula is said to be false
abbrev pub IfFalse : Disproved → Type 0 → Type 0
IfFalse (outcome.False n) P = P
IfFalse (outcome.RefusedLine n c) P = Unit {0}
IfFalse outcome.RefusedEnd P = Unit {0}
IfFalse (outcome.RefusedInput n c) P = Unit {0}
IfFalse outcome.ReadFault P = Unit {0}
IfFalse outcome.NoMemory P = Unit {0}

-- where reversals are noted, they are those of steps that lead to the empty clause
abbrev pub ReachEmpty : Notes → Type 0
ReachEmpty notes.Unkept = Unit {0}
ReachEmpty (notes.Kept F t) = (ss : List ProofStep) × HasMade F ss t × IsLost t.formula
ReachEmpty (notes.Extended line) = Unit {0}

-- those of the steps of a proof up to the empty clause
pub record AreLast (keeps : Bool) (j : Share) (F : PrenexFormula) (p : Parsed) (n : Notes) : Type 0 where
  pub front : List Entry
  pub rest : List Entry
  pub whole : p.steps ≡ front ++ rest
  pub last : PrenexFormula
  pub taken : AreTakenUnlost j standard 0 F (steps_of front) last
  pub lost : IsLost last
  pub notes : AreNotes keeps F front n
