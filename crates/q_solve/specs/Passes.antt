-- What is done with circuits where a side of a decision is left. The variable of the decision is x, and so many variables
-- stand up to it.
use Rattle.std.specs.Prelude.{◌≡◌, ℕ, suc, Bool, true, false, not, ◌&&◌, List, [], ◌∷◌, ◌++◌, Some}
use Rattle.q_logic.specs.declared.formulas.Quant.{Quant}
use Rattle.q_logic.specs.declared.formulas.Quant.TheVariants.{Exists, Forall}
use Rattle.q_logic.specs.Prelude.{goes_on}
use Rattle.q_aig.specs.Prelude.{IsLiteral}
use Rattle.q_certificate.specs.Prelude.{look_at}
use Rattle.q_solve.specs.declared.picks.Pick.{Pick}
use Rattle.q_solve.specs.declared.circuits.Circuits.{Circuits}
use Rattle.q_solve.specs.Picks.{IsRow}
use Rattle.q_solve.specs.Joins.{AreIn, IsJoined}

-- graph and inputs stay
pub record SameGraph (old new : Circuits) : Type 0 where
  pub graph : new.aig ≡ old.aig
  pub universals : new.inputs.items ≡ old.inputs.items

-- the circuits of two sides are joined
pub record IsMerged (old new : Circuits) (x depth : ℕ) (rows : List (List Pick)) (first : List Pick) : Type 0 where
  pub universals : new.inputs.items ≡ old.inputs.items
  pub waiting : new.aside.items ≡ rows
  pub literal : ℕ
  pub looked : look_at old.inputs.items x ≡ Some literal
  pub joined : IsJoined old.aig new.aig literal (suc depth) old.current first new.current

-- a side that is won is left: its circuits are kept, put aside or joined with those that wait
abbrev pub IsPassed : Quant → Bool → ℕ → ℕ → Circuits → Circuits → Type 0
IsPassed Exists false x depth old new = SameGraph old new × (new.current ≡ old.current) × (new.aside.items ≡ old.aside.items)
IsPassed Exists true x depth old new =
    SameGraph old new × (new.current ≡ old.current ++ record { depth = depth; lit = 1 } ∷ []) × (new.aside.items ≡ old.aside.items)
IsPassed Forall false x depth old new =
    SameGraph old new × (new.current ≡ []) × (new.aside.items ≡ old.aside.items ++ old.current ∷ [])
IsPassed Forall true x depth old new =
    (rows : List (List Pick)) → (first : List Pick) → old.aside.items ≡ rows ++ first ∷ [] → IsMerged old new x depth rows first

-- what a join asks
pub record IsJoinable (c : Circuits) (x depth : ℕ) (first : List Pick) : Type 0 where
  pub literal : ℕ
  pub looked : look_at c.inputs.items x ≡ Some literal
  pub there : IsLiteral c.aig literal
  pub row : IsRow (suc depth) c.current
  pub first_row : IsRow (suc depth) first
  pub row_in : AreIn c.aig c.current
  pub first_in : AreIn c.aig first

abbrev pub CanPass : Quant → Bool → ℕ → ℕ → Circuits → Type 0
CanPass Exists v x depth c = Unit {0}
CanPass Forall false x depth c = Unit {0}
CanPass Forall true x depth c = (rows : List (List Pick)) × (first : List Pick) × (c.aside.items ≡ rows ++ first ∷ []) × IsJoinable c x depth first

-- a side that is lost is left: circuits that wait for the second side of a universal go
abbrev pub IsDropped : Quant → Bool → Circuits → Circuits → Type 0
IsDropped Exists v old new = SameGraph old new × (new.aside.items ≡ old.aside.items)
IsDropped Forall false old new = SameGraph old new × (new.aside.items ≡ old.aside.items)
IsDropped Forall true old new =
    SameGraph old new × ((rows : List (List Pick)) → (first : List Pick) → old.aside.items ≡ rows ++ first ∷ [] → new.aside.items ≡ rows)

-- whether the second value has to be tried, where the side of a value is won or is not
abbrev pub has_second : Quant → Bool → Bool → Bool
has_second q v won = not v && goes_on q won
