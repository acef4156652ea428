-- The steps of a log, as they are counted and kept.
use Rattle.std.specs.Prelude.{◌≡◌, ◌+◌, Bool, true, cond, List, [], ◌∷◌, ◌++◌}
use Rattle.q_logic.specs.Prelude.{PrenexFormula, Run}
use Rattle.q_command.specs.Logs.{Entry, steps_of}
use Rattle.q_command.specs.declared.taken.Taken.{Taken}
use Rattle.q_command.specs.declared.taken.TakenStep.{TakenStep}

-- the steps with their lines
abbrev pub entries_of : List TakenStep → List Entry
entries_of [] = []
entries_of (t ∷ ts) = (t.line, t.step) ∷ entries_of ts

-- nothing is taken yet
pub record HasNone (keeps : Bool) (t : Taken) : Type 0 where
  pub count : t.count ≡ 0
  pub judged : t.judged ≡ 0
  pub keeps_is : t.keeps ≡ keeps
  pub steps : t.steps.items ≡ []

-- where steps are kept, these are behind the old ones
abbrev pub HasKept : Bool → List Entry → List TakenStep → List TakenStep → Type 0
HasKept keeps es old new = keeps ≡ true → entries_of new ≡ entries_of old ++ es

-- one step more, which was judged or not
pub record HasAdded (e : Entry) (t : Bool) (old new : Taken) : Type 0 where
  pub count : new.count ≡ old.count + 1
  pub judged : new.judged ≡ cond t (old.judged + 1) old.judged
  pub keeps : new.keeps ≡ old.keeps
  pub steps : HasKept old.keeps (e ∷ []) old.steps.items new.steps.items

-- where steps are kept, they lead from F to G
abbrev pub AreRun : Bool → PrenexFormula → PrenexFormula → List TakenStep → Type 0
AreRun keeps F G ts = keeps ≡ true → Run F (steps_of (entries_of ts)) G
