-- What a drive is seen as.
use Rattle.std.specs.Prelude.{ℕ, Bool, true, false, List, [], ◌∷◌, Option, Some, None, length, ◌≡◌, ◌≢◌, ◌≤◌, ◌<◌, ◌+◌, ◌-◌, ◌*◌, cond, ◌⊎◌}
use Rattle.q_logic.specs.declared.rule_bounds.Bounds.{Bounds}
use Rattle.q_logic.specs.Prelude.{measure_of, Target, Rose}
use Rattle.q_kernel.specs.Prelude.{Seen, SameView, formula_in, IsTaken, Applies}
use Rattle.q_sched.specs.Moves.{target_of}
use Rattle.q_sched.specs.declared.turns.Turn.{Turn}
use Rattle.q_sched.specs.declared.turns.Turn.TheVariants as turn
use Rattle.q_sched.specs.declared.guide.Proposal.{Proposal}
use Rattle.q_sched.specs.declared.guide.Proposal.TheVariants.{Take, Done, NoMemory}
use Rattle.q_sched.specs.Searching.{IsOfFirst}
use Rattle.q_sched.specs.Settled.{IsDone}

-- a guide by its meanings
pub record Meaning : Type 0 where
  pub asked : ℕ
  pub last : Proposal
  pub heard : Bool

pub record Driving : Type 0 where
  pub bounds : Bounds
  pub budget : Option ℕ
  pub first_measure : ℕ
  pub guides : List Meaning
  pub refused : ℕ
  pub over : Bool

-- how many turns with `Asked` may still come
abbrev pub left_at : List Meaning → Bool → ℕ → ℕ
left_at [] over refused = 0
left_at (first ∷ rest) over refused = cond over 1 (1025 - refused) + 1025 * length rest

abbrev pub left_of : Driving → ℕ
left_of d = left_at d.guides d.over d.refused

-- a turn after which there may be others lowers the measure, or what is left
abbrev pub Lowers : Turn → ℕ → ℕ → ℕ → ℕ → Type 0
Lowers turn.Moved left measure left2 measure2 = (left2 ≤ left) × (measure2 < measure)
Lowers turn.Asked left measure left2 measure2 = (left2 < left) × (measure2 ≡ measure)
Lowers turn.Settled left measure left2 measure2 = (left2 ≡ left) × (measure2 ≡ measure)
Lowers turn.Spent left measure left2 measure2 = (left2 ≡ left) × (measure2 ≡ measure)
Lowers turn.GaveWay left measure left2 measure2 = (left2 ≡ left) × (measure2 ≡ measure)

-- the same over a drive and a kernel
abbrev pub Falls : Turn → Driving → Seen → Driving → Seen → Type 0
Falls answer before old after new =
    Lowers answer (left_of before) (measure_of before.bounds (formula_in old)) (left_of after) (measure_of before.bounds (formula_in new))

-- a budget is given, and the measure is at least the budget below the first one
abbrev pub IsSpentAt : Option ℕ → ℕ → ℕ → Type 0
IsSpentAt None first now = ⊥
IsSpentAt (Some budget) first now = now + budget ≤ first

abbrev pub IsSpent : Driving → Seen → Type 0
IsSpent d k = IsSpentAt d.budget d.first_measure (measure_of d.bounds (formula_in k))

-- what no turn changes
pub record SameFrame (before after : Driving) : Type 0 where
  pub bounds : after.bounds ≡ before.bounds
  pub budget : after.budget ≡ before.budget
  pub first_measure : after.first_measure ≡ before.first_measure

-- the first guide is over, or was refused 1,024 times
abbrev pub IsFinished : Driving → Type 0
IsFinished d = (d.over ≡ true) ⊎ (d.refused ≡ 1024)

-- the first guide is dropped
pub record Drops (before after : Driving) : Type 0 where
  pub frame : SameFrame before after
  pub first : Meaning
  pub guides : before.guides ≡ first ∷ after.guides
  pub refused : after.refused ≡ 0
  pub over : after.over ≡ false

-- the target is taken exactly where it applies, and the guide is told whether it was
abbrev pub Follows : Target → Bool → Driving → Seen → Turn → Driving → Seen → Type 0
Follows t heard before old answer after new =
    (after.over ≡ false)
    × (Applies before.bounds old t → (heard ≡ true) × (after.refused ≡ before.refused) × (answer ≡ turn.Moved) × IsTaken before.bounds old new t)
    × ((Applies before.bounds old t → ⊥) → (heard ≡ false) × (after.refused ≡ before.refused + 1) × (answer ≡ turn.Asked) × SameView old new)

-- what follows from the first guide's answer; one that wanted memory leads to no turn
abbrev pub Decides : Proposal → Bool → Driving → Seen → Turn → Driving → Seen → Type 0
Decides Done heard before old answer after new =
    (after.over ≡ true) × (after.refused ≡ before.refused) × (answer ≡ turn.Asked) × (new ≡ old)
Decides NoMemory heard before old answer after new = ⊥
Decides (Take m) heard before old answer after new = Follows (target_of m) heard before old answer after new

-- the first guide was asked, and the others are as before
pub record AsksOne (before after : List Meaning) (P : Meaning → Type 0) : Type 0 where
  pub first : Meaning
  pub then : Meaning
  pub rest : List Meaning
  pub was : before ≡ first ∷ rest
  pub is : after ≡ then ∷ rest
  pub rises : Rose first.asked then.asked
  pub holds : P then

-- a turn asks the first guide, and nothing else in the list changes
abbrev pub Asks : Driving → Seen → Turn → Driving → Seen → Type 0
Asks before old answer after new = AsksOne before.guides after.guides (λ then. Decides then.last then.heard before old answer after new)

-- a turn searches: a target of the first group that has one is taken; a search that gave way changes nothing
abbrev pub Searched : Bounds → Seen → Turn → Seen → Type 0
Searched B old turn.Moved new = (t : Target) × IsOfFirst B old t × IsTaken B old new t
Searched B old turn.Asked new = ⊥
Searched B old turn.Settled new = IsDone B old × (new ≡ old)
Searched B old turn.Spent new = ⊥
Searched B old turn.GaveWay new = new ≡ old

-- a turn at a spent budget; where the search gave way, nothing is said
abbrev pub Closes : Bounds → Seen → Turn → Type 0
Closes B k turn.Moved = ⊥
Closes B k turn.Asked = ⊥
Closes B k turn.Settled = IsDone B k
Closes B k turn.Spent = IsDone B k → ⊥
Closes B k turn.GaveWay = Unit {0}

-- a turn that answers want of memory: the first guide may have been asked
pub record Stays (before : Driving) (old : Seen) (after : Driving) (new : Seen) : Type 0 where
  pub view : SameView old new
  pub frame : SameFrame before after
  pub refused : after.refused ≡ before.refused
  pub over : after.over ≡ before.over
  pub guides : (after.guides ≡ before.guides) ⊎ AsksOne before.guides after.guides (λ then. Unit {0})

-- what an answer says by itself
abbrev pub Ends : Turn → Driving → Seen → Seen → Type 0
Ends turn.Moved d old new = (¬ IsSpent d old) × (t : Target) × IsTaken d.bounds old new t
Ends turn.Asked d old new = (¬ IsSpent d old) × SameView old new
Ends turn.Settled d old new = IsDone d.bounds old × (new ≡ old)
Ends turn.Spent d old new = IsSpent d old × (¬ IsDone d.bounds old) × (new ≡ old)
Ends turn.GaveWay d old new = new ≡ old

-- what an answer of a guide says by itself
abbrev pub Answers : Turn → Bounds → Seen → Seen → Type 0
Answers turn.Moved B old new = (t : Target) × IsTaken B old new t
Answers turn.Asked B old new = SameView old new
Answers turn.Settled B old new = ⊥
Answers turn.Spent B old new = ⊥
Answers turn.GaveWay B old new = ⊥

-- the first guide is asked, and what it proposes is tried
pub record AsksFirst (before : Driving) (old : Seen) (answer : Turn) (after : Driving) (new : Seen) : Type 0 where
  pub frame : SameFrame before after
  pub asks : Asks before old answer after new
  pub falls : Falls answer before old after new
  pub answers : Answers answer before.bounds old new

-- what a turn does
pub record Turned (before : Driving) (old : Seen) (answer : Turn) (after : Driving) (new : Seen) : Type 0 where
  -- at a spent budget one round of searches decides
  pub spent : IsSpent before old → Closes before.bounds old answer × (after ≡ before) × (new ≡ old)
  -- else a first guide that is finished is dropped
  pub dropped : (¬ IsSpent before old) → before.guides ≢ [] → IsFinished before → Drops before after × (answer ≡ turn.Asked) × (new ≡ old)
  -- another first guide is asked and followed
  pub asks : (¬ IsSpent before old) → before.guides ≢ [] → (¬ IsFinished before) → Asks before old answer after new
  -- where no guide is left, the rules are searched
  pub searches : (¬ IsSpent before old) → before.guides ≡ [] → Searched before.bounds old answer new × (after ≡ before)
  -- the measure falls, or what is left, or the turns end
  pub falls : Falls answer before old after new
  -- what the answer says by itself
  pub ends : Ends answer before old new
  -- bounds and budget stay
  pub frame : SameFrame before after
