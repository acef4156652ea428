-- What the literals of a file stand for.
use Rattle.std.specs.Prelude.{ℕ, ◌+◌, ◌-◌, ◌/◌, ◌%◌, ◌==◌, nat_lt, List, [], ◌∷◌, ◌++◌, if◌then◌else◌, Option, Some, None, Result, Ok, Err}
use Rattle.q_logic.specs.Prelude.{GateNode, falsum, input_at, gate_at, Operand, Gate}
use Rattle.q_aiger.specs.Items.{place_of}

abbrev pub undefined : ℕ
undefined = 5

-- the definition at a place: those of the inputs come first
abbrev pub node_at : ℕ → Option ℕ → Option GateNode
node_at inputs None = None
node_at inputs (Some k) = Some (if nat_lt k inputs then input_at k else gate_at (k - inputs))

-- what a variable stands for, where it is defined; the literals 0 and 1 have the variable 0
abbrev pub node_in : ℕ → List ℕ → ℕ → Option GateNode
node_in inputs defined v = if v == 0 then Some falsum else node_at inputs (place_of defined v)

abbrev pub signed : ℕ → Option GateNode → Option Operand
signed l None = None
signed l (Some n) = Some (record { node = n; negated = l % 2 == 1 })

abbrev pub operand_in : ℕ → List ℕ → ℕ → Option Operand
operand_in inputs defined l = signed l (node_in inputs defined (l / 2))

abbrev pub follow_operand : ℕ → Option Operand → (Operand → Result (List Operand) (ℕ × ℕ)) → Result (List Operand) (ℕ × ℕ)
follow_operand n None later = Err (n, undefined)
follow_operand n (Some o) later = later o

-- the outputs of these literals, from line n on, behind others
abbrev pub outputs_from : ℕ → List ℕ → ℕ → List Operand → List ℕ → Result (List Operand) (ℕ × ℕ)
outputs_from inputs defined n os [] = Ok os
outputs_from inputs defined n os (l ∷ ls) =
    follow_operand n (operand_in inputs defined l) (λ o. outputs_from inputs defined (n + 1) (os ++ o ∷ []) ls)

abbrev pub gate_with : Option Operand → Option Operand → Option Gate
gate_with (Some a) (Some b) = Some (record { left = a; right = b })
gate_with a b = None

abbrev pub follow_gate : ℕ → Option Gate → (Gate → Result (List Gate) (ℕ × ℕ)) → Result (List Gate) (ℕ × ℕ)
follow_gate n None later = Err (n, undefined)
follow_gate n (Some g) later = later g

-- the gates of these operands, from line n on, behind others
abbrev pub gates_from : ℕ → List ℕ → ℕ → List Gate → List (ℕ × ℕ) → Result (List Gate) (ℕ × ℕ)
gates_from inputs defined n gs [] = Ok gs
gates_from inputs defined n gs (p ∷ ps) =
    follow_gate n (gate_with (operand_in inputs defined p.0) (operand_in inputs defined p.1)) (λ g. gates_from inputs defined (n + 1) (gs ++ g ∷ []) ps)
