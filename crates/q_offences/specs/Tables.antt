-- The first row of a table that applies.
use Rattle.std.specs.Prelude.{◌≡◌, ◌⊎◌, List, [], ◌∷◌}

-- of these rows, from the top, r is the first that applies
abbrev pub IsFirst : {R : Type 0} → (R → Type 0) → List R → R → Type 0
IsFirst A [] r = ⊥
IsFirst A (s ∷ ss) r = (A s × (r ≡ s)) ⊎ (¬ A s × IsFirst A ss r)
