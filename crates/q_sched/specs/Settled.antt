-- Settled, over a kernel and over a formula.
use Rattle.q_logic.specs.declared.rule_bounds.Bounds.{Bounds}
use Rattle.q_logic.specs.Prelude.{Prefix, PrenexFormula, Slots, numbered, Target, Applicable}
use Rattle.q_logic.specs.Settled.{Settled}
use Rattle.q_kernel.specs.Prelude.{Seen, slots}

-- no target applies
abbrev pub NoneApplies : Bounds → Prefix → Slots → Type 0
NoneApplies B P N = (t : Target) → Applicable B P N t → ⊥

-- no target applies to the kernel's formula
abbrev pub IsDone : Bounds → Seen → Type 0
IsDone B k = NoneApplies B k.prefix (slots k)

-- settled, the clauses numbered in their order
abbrev pub IsSettled : Bounds → PrenexFormula → Type 0
IsSettled B F = Settled B F.prefix (numbered F.matrix)
