-- The block of a variable, as a walk in one direction meets it.
use Rattle.std.specs.Prelude.{ℕ, Bool, cond, if◌then◌else◌, ◌==◌, List, [], ◌∷◌, reverse, Option, None, Some}
use Rattle.q_arena.specs.Prelude.{following}

-- the variables in the order of a walk
abbrev pub ahead : Bool → List ℕ → List ℕ
ahead forward vars = cond forward vars (reverse vars)

-- the variables from one on
abbrev pub onward : ℕ → List ℕ → List ℕ
onward v [] = []
onward v (u ∷ vars) = if u == v then u ∷ vars else onward v vars

-- those in front that have this rank
abbrev pub in_front : (ℕ → ℕ) → ℕ → List ℕ → List ℕ
in_front rank r [] = []
in_front rank r (u ∷ vars) = if rank u == r then u ∷ in_front rank r vars else []

-- a variable and what follows it in its block
abbrev pub block_from : (ℕ → ℕ) → ℕ → List ℕ → List ℕ
block_from rank v vars = in_front rank (rank v) (onward v vars)

-- the variable of a block, where it has this rank
abbrev pub of_rank : (ℕ → ℕ) → ℕ → Option ℕ → Option ℕ
of_rank rank r None = None
of_rank rank r (Some w) = if rank w == r then Some w else None

-- the next variable of one's block
abbrev pub mate_of : (ℕ → ℕ) → ℕ → List ℕ → Option ℕ
mate_of rank v vars = of_rank rank (rank v) (following v vars)
