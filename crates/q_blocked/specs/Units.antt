-- Clauses of one literal.
use Rattle.std.specs.Prelude.{◌≡◌, ℕ, true, List, Contains, Some}
use Rattle.q_logic.specs.Prelude.{Literal, Clause, IsIn, Slots, slot}
use Rattle.q_blocked.specs.declared.units.Units.{Units}

-- the clause is of one literal
abbrev pub IsSingle : Clause → Type 0
IsSingle D = (j : Literal) × IsIn j D × ((i : Literal) → IsIn i D → i ≡ j)

-- the ids of all clauses of one literal are in the list
abbrev pub HasUnits : Slots → List ℕ → Type 0
HasUnits N ids = (d : ℕ) (D : Clause) → slot N d ≡ Some D → IsSingle D → IsIn d ids

-- those of such clauses that were met
abbrev pub HasUnitsAmong : Slots → List ℕ → List ℕ → Type 0
HasUnitsAmong N met ids = (d : ℕ) (D : Clause) → Contains met d → slot N d ≡ Some D → IsSingle D → IsIn d ids

-- what is known is right
abbrev pub AreRight : Slots → Units → Type 0
AreRight N u = u.known ≡ true → HasUnits N u.ids.items
