-- A node as the path to it: the values of the first variables, in their order.
use Rattle.std.specs.Prelude.{ℕ, ◌+◌, Bool, true, false, List, [], ◌∷◌}
use Rattle.q_logic.specs.Prelude.{Prefix, Assignment, with_value, Test, Node, Tally, explored, then_second}
use Rattle.q_logic.specs.declared.verdict.Verdict.{Verdict}

-- the values along a path
abbrev pub along : Prefix → List Bool → Assignment → Assignment
along [] vs A = A
along (b ∷ P) [] A = A
along (b ∷ P) (v ∷ vs) A = along P vs (with_value A b.var v)

-- the variables that have no value at its end
abbrev pub rest_of : Prefix → List Bool → Prefix
rest_of P [] = P
rest_of [] (v ∷ vs) = []
rest_of (b ∷ P) (v ∷ vs) = rest_of P vs

-- what the whole search finds, if the node at the end of the path gives t; decisions made before are left out.
-- A value 0 on the path may have to be followed by 1, a value 1 was the second one.
abbrev pub whole : Test → Prefix → List Bool → Assignment → Tally → Tally
whole f P [] A t = t
whole f [] (v ∷ vs) A t = t
whole f (b ∷ P) (false ∷ vs) A t =
    then_second b.quant
    (whole f P vs (with_value A b.var false) t)
    (explored f P (with_value A b.var true))
whole f (b ∷ P) (true ∷ vs) A t = whole f P vs (with_value A b.var true) t

-- how many values 0 are on the path
abbrev pub zeros : List Bool → ℕ
zeros [] = 0
zeros (false ∷ vs) = zeros vs + 1
zeros (true ∷ vs) = zeros vs

-- what the whole search finds from the node at the end of the path on
abbrev pub outlook : Test → Prefix → List Bool → Assignment → Tally
outlook f P vs A = whole f P vs A (explored f (rest_of P vs) (along P vs A))

-- the node at the end of the path
abbrev pub node_at : Prefix → List Bool → Assignment → Node
node_at P vs A = record { rest = rest_of P vs; values = along P vs A }

-- what the test says of the node at the end of the path
abbrev pub said : Test → Prefix → List Bool → Assignment → Verdict
said f P vs A = f (rest_of P vs) (along P vs A)
