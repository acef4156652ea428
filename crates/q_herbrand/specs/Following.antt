-- Circuits over slots, and the strategy that they stand for.
use Rattle.std.specs.Prelude.{◌≡◌, ◌≤◌, ◌⊎◌, ℕ, ◌+◌, Bool, true, List, length, Option, Some, None}
use Rattle.q_logic.specs.Prelude.{Circuit, Strategy, circuit_of, given}
use Rattle.q_logic.specs.Reversals.{Reversal, carried, Forth}
use Rattle.q_aig.specs.Prelude.{Net, tree_at, Serves}
use Rattle.q_certificate.specs.Prelude.{look_at, AreLiterals}
use Rattle.q_herbrand.specs.declared.slots.Slots.{Slots}
use Rattle.q_herbrand.specs.Under.{under}
use Rattle.q_herbrand.specs.Slots.{AreSlots, AreCurrent, AreOwned, IsResolved}
use Rattle.q_herbrand.specs.Inputs.{has_input}
use Rattle.q_herbrand.specs.Covered.{EntryCovered, EntryOwned, AreCovered, weight, weights}

abbrev pub tree_of_literal : Net → Option ℕ → Option Circuit
tree_of_literal a None = None
tree_of_literal a (Some l) = Some (tree_at a l)

-- the circuits of a row
abbrev pub standing : Net → List (Option ℕ) → Strategy
standing a tb x = tree_of_literal a (look_at tb x)

-- with a circuit for each slot, each circuit of the one strategy serves the other one's; variables of U without a
-- circuit are inputs there
abbrev pub AreUnder : (ℕ → Circuit) → (ℕ → Bool) → Strategy → Strategy → Type 0
AreUnder r U own c = (x : ℕ) → (given (c x) ≡ true) ⊎ (U x ≡ true) →
    (t : Circuit) × (own x ≡ Some t) × Serves (under r t) (circuit_of c x)

-- a row of circuits and of slots stands for the strategy
pub record Follows (a : Net) (ins tb : List (Option ℕ)) (z : Slots) (c : Strategy) : Type 0 where
  pub resolution : ℕ → Circuit
  pub resolved : IsResolved a z resolution
  pub circuits : AreUnder resolution (has_input ins) (standing a tb) c

-- the rows belong to the graph, and each input of the first row has a slot
pub record IsReady (a : Net) (ins tb : List (Option ℕ)) (z : Slots) : Type 0 where
  pub slots : AreSlots a z
  pub current : AreCurrent ins z
  pub owned : AreOwned a.inputs ins z
  pub literals : AreLiterals a ins
  pub circuits : AreLiterals a tb

-- one entry taken, and several
pub record IsTaken (a b : Net) (ins tb tb2 : List (Option ℕ)) (z z2 : Slots) (r : Reversal) : Type 0 where
  pub ready : IsReady b ins tb2 z2
  pub gates : length b.gates ≤ length a.gates + weight r
  pub follows : (c : Strategy) → Follows a ins tb z c → EntryCovered (has_input ins) r c → EntryOwned r c →
      Follows b ins tb2 z2 (carried r c)

pub record AreTaken (a b : Net) (ins tb tb2 : List (Option ℕ)) (z z2 : Slots) (rs : List Reversal) : Type 0 where
  pub ready : IsReady b ins tb2 z2
  pub gates : length b.gates ≤ length a.gates + weights rs
  pub follows : (c : Strategy) → Follows a ins tb z c → AreCovered (has_input ins) rs c →
      Follows b ins tb2 z2 (Forth rs c)
