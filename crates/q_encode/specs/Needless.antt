-- Clauses of gates within a clause.
use Rattle.std.specs.Prelude.{ℕ, Bool, cond, ◌||◌, ◌&&◌, List}
use Rattle.q_logic.specs.Prelude.{negation, Clause, Gate, has}
use Rattle.q_miter.specs.Miters.{operand_literal}

-- what a clause of the gate has beside the gate's literal, negative or not, is in the clause
abbrev pub is_gate_part : ℕ → List ℕ → Gate → Clause → Bool → Bool
is_gate_part top inputs x C negative =
    cond negative
    (has (operand_literal top inputs x.left) C || has (operand_literal top inputs x.right) C)
    (has (negation (operand_literal top inputs x.left)) C && has (negation (operand_literal top inputs x.right)) C)
