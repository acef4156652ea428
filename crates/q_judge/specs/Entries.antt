-- The undo list as the code keeps it, with which circuits are taken back (Heule, Seidl and Biere, 2017).
use Rattle.std.specs.Prelude.{◌≡◌, Bool, true, false, List, [], ◌∷◌, Option, None, Some}
use Rattle.q_logic.specs.Prelude.{Literal, negation, Clause, Matrix, Prefix, UndoEntry, OutersOf, pivot, removed, freshened}
use Rattle.q_judge.specs.declared.pivots.Warrant.{Warrant}
use Rattle.q_judge.specs.declared.pivots.Warrant.TheVariants.{Propagation}
use Rattle.q_judge.specs.declared.pivots.Warrant.TheVariants.{Pivot as ByPivot}
use Rattle.q_judge.specs.declared.undo.Undo.{Undo}
use Rattle.q_judge.specs.declared.undo.Undo.TheVariants.{Pivot, Removed, Fresh}

abbrev pub entry_of : Undo → UndoEntry
entry_of (Pivot l outers) = pivot l outers
entry_of (Removed v) = removed v
entry_of (Fresh v) = freshened v

-- one entry or none
abbrev pub entries_of : Option Undo → List UndoEntry
entries_of None = []
entries_of (Some u) = entry_of u ∷ []

-- the pivot by which a clause goes, where the undo list is kept
abbrev pub kept_pivot : Bool → Warrant → Option Literal → Option Literal
kept_pivot false w p = None
kept_pivot true Propagation p = None
kept_pivot true ByPivot p = p

-- a clause that goes by its pivot leaves its outer clauses
abbrev pub IsPivotEntry : Prefix → Matrix → Option Literal → Option Undo → Type 0
IsPivotEntry P X None u = u ≡ None
IsPivotEntry P X (Some l) u = (outers : List Clause) × OutersOf P X (negation l) outers × (entries_of u ≡ pivot l outers ∷ [])
