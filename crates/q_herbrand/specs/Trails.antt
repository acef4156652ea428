-- A trail: the formula that the steps so far left, and their reversals.
use Rattle.std.specs.Prelude.{◌≡◌, ◌++◌, false, List, Option, Result, Ok, Err}
use Rattle.q_logic.specs.Prelude.{PrenexFormula, standard, ProofStep, after, ValidSteps, AreAlike}
use Rattle.q_logic.specs.Reversals.{Reversal, Reversed, Reversals, IsExtended}
use Rattle.q_refutation.specs.Refutations.{AreMade}
use Rattle.q_herbrand.specs.declared.error.TrailError.{TrailError}
use Rattle.q_herbrand.specs.declared.error.TrailError.TheVariants.{Extended, NoMemory}
use Rattle.q_herbrand.specs.declared.reversal.Reversal.{Reversal as Entry}
use Rattle.q_herbrand.specs.Entries.{entries_of}

pub record Trailed : Type 0 where
  pub formula : PrenexFormula
  pub reversals : List Reversal

-- a step led from F to G, up to the order of clauses, and left an entry or none; or an error left F as it was
abbrev pub IsPassed : PrenexFormula → ProofStep → PrenexFormula → Result (Option Entry) TrailError → Type 0
IsPassed F s G (Ok r) = AreAlike (after F s) G × Reversed F s (entries_of r)
IsPassed F s G (Err Extended) = (G ≡ F) × IsExtended F s
IsPassed F s G (Err NoMemory) = G ≡ F

-- the reversals after a step
abbrev pub HasGrownBy : PrenexFormula → ProofStep → List Reversal → List Reversal → Type 0
HasGrownBy F s old new = (es : List Reversal) × Reversed F s es × (new ≡ old ++ es)

-- the steps lead from F to the trail's formula, up to the order of clauses, and it has their reversals
pub record HasNoted (F : PrenexFormula) (ss : List ProofStep) (t : Trailed) : Type 0 where
  pub last : PrenexFormula
  pub steps : ValidSteps standard F ss last
  pub alike : AreAlike last t.formula
  pub reversals : Reversals F ss t.reversals

-- the same of steps that may be made
pub record HasMade (F : PrenexFormula) (ss : List ProofStep) (t : Trailed) : Type 0 where
  pub last : PrenexFormula
  pub steps : AreMade false standard F ss last
  pub alike : AreAlike last t.formula
  pub reversals : Reversals F ss t.reversals

-- memory may be missing at any time; else the step is an extended drop
abbrev pub IsNoted : PrenexFormula → ProofStep → TrailError → Type 0
IsNoted F s Extended = IsExtended F s
IsNoted F s NoMemory = Unit {0}
