-- Marks of clauses, by their ids.
use Rattle.std.specs.Prelude.{◌≡◌, ◌↔◌, ℕ, Bool, true, false, List, slice_index_or}
use Rattle.q_kernel.specs.Lists.{Has}

-- the marks are those of the ids in the list
abbrev pub AreNoted : List Bool → List ℕ → Type 0
AreNoted marks ids = (c : ℕ) → (slice_index_or marks c false ≡ true) ↔ Has ids c
