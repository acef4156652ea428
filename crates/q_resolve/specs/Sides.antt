-- Lines of a trace as values.
use Rattle.std.specs.Prelude.{ℕ, List, map, Option}
use Rattle.q_logic.specs.Prelude.{Literal, negation, Circuit}
use Rattle.q_long.specs.Valued.{Value, values_for}
use Rattle.q_extract.specs.Merges.{value_at}
use Rattle.q_resolve.specs.declared.leaves.Owner.{Owner}
use Rattle.q_resolve.specs.declared.leaves.Owner.TheVariants.{Exists, Forall}

-- a literal of a line as one of the owner's term: a clause is read as the term that says that it is false
abbrev pub sided : Owner → Literal → Literal
sided Exists k = k
sided Forall k = negation k

-- the literals of a line that merges nothing as values
abbrev pub side_values : Owner → List Literal → List Value
side_values o T = values_for (map (sided o) T)

-- the literals of a line as values, where f has the merges of its variables
abbrev pub line_values : List Circuit → (ℕ → Option ℕ) → Owner → List Literal → List Value
line_values cs f o T = map (value_at cs f) (map (sided o) T)
