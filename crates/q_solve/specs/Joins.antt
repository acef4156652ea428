-- Two sides of a universal, joined.
use Rattle.std.specs.Prelude.{◌≡◌, ◌<◌, ◌≤◌, ℕ, suc, max, List}
use Rattle.q_logic.specs.Prelude.{Circuit, inverter, conjunction, disjunction}
use Rattle.q_aig.specs.Prelude.{Net, IsLiteral, tree_at, Keeps, Serves}
use Rattle.q_solve.specs.declared.picks.Pick.{Pick}
use Rattle.q_solve.specs.Picks.{lit_at, AreBelow, IsRow, top_of}

-- (u and second) or (not u and first)
abbrev pub chosen : Net → ℕ → ℕ → ℕ → Circuit
chosen a u second first =
    disjunction
    (conjunction (tree_at a u) (tree_at a second))
    (conjunction (inverter (tree_at a u)) (tree_at a first))

-- l is the second literal where u is true, and the first where it is false
pub record IsChosen (old new : Net) (u second first l : ℕ) : Type 0 where
  pub inputs : new.inputs ≡ old.inputs
  pub kept : Keeps old new
  pub there : IsLiteral new l
  pub serves : Serves (tree_at new l) (chosen old u second first)

-- each literal of a row is one of the net
abbrev pub AreIn : Net → List Pick → Type 0
AreIn a row = (k : ℕ) → IsLiteral a (lit_at row k)

-- the row chooses at each depth
pub record IsJoined (old new : Net) (u low : ℕ) (second first joined : List Pick) : Type 0 where
  pub inputs : new.inputs ≡ old.inputs
  pub kept : Keeps old new
  pub row : IsRow low joined
  pub within : (n : ℕ) → AreBelow n second → AreBelow n first → AreBelow n joined
  pub literals : AreIn new joined
  pub serves : (k : ℕ) → Serves (tree_at new (lit_at joined k)) (chosen old u (lit_at second k) (lit_at first k))

-- how far a join is: what is deeper than `end` is done, and of both rows the rest is left
pub record IsJoining (old now : Net) (u low : ℕ) (second first second_left first_left joined : List Pick) (end : ℕ) : Type 0 where
  pub inputs : now.inputs ≡ old.inputs
  pub kept : Keeps old now
  pub second_row : IsRow low second_left
  pub first_row : IsRow low first_left
  pub ends : end ≡ max (top_of second_left) (top_of first_left)
  pub row : IsRow (suc end) joined
  pub row_low : IsRow low joined
  pub within : (n : ℕ) → AreBelow n second → AreBelow n first → AreBelow n joined
  pub second_deep : (n : ℕ) → AreBelow n second → AreBelow n second_left
  pub first_deep : (n : ℕ) → AreBelow n first → AreBelow n first_left
  pub literals : AreIn now joined
  pub second_rest : (k : ℕ) → k ≤ end → lit_at second_left k ≡ lit_at second k
  pub first_rest : (k : ℕ) → k ≤ end → lit_at first_left k ≡ lit_at first k
  pub serves : (k : ℕ) → end < k → Serves (tree_at now (lit_at joined k)) (chosen old u (lit_at second k) (lit_at first k))
