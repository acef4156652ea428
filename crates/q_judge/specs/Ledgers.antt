-- A formula by slots: a prefix, and where each clause stands.
use Rattle.std.specs.Prelude.{ℕ, Option}
use Rattle.q_logic.specs.Prelude.{Matrix, Prefix, PrenexFormula, Slots, numbered}
use Rattle.q_prop.specs.Slots.{filled, without}

-- a prefix, and clauses in slots
pub record Slotted : Type 0 where
  pub prefix : Prefix
  pub slots : Slots

-- the formula without its slots
abbrev pub formula_in : Slotted → PrenexFormula
formula_in L = record { prefix = L.prefix; matrix = filled L.slots }

-- the clauses in all slots but one
abbrev pub clauses_but : Slotted → Option ℕ → Matrix
clauses_but L skip = filled (without L.slots skip)

-- a formula with its clauses in the slots from 0 on
abbrev pub slotted : PrenexFormula → Slotted
slotted F = record { prefix = F.prefix; slots = numbered F.matrix }
