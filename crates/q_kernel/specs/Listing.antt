-- Which variables the lists hold, and the text of pending steps.
use Rattle.std.specs.Prelude.{◌+◌, ℕ, Bool, true, false, nat_lt, ◌&&◌, ◌||◌, if◌then◌else◌, List, length}
use Rattle.q_logic.specs.Prelude.{Clause, Prefix, has_variable}
use Rattle.q_arena.specs.Prelude.{Chains}
use Rattle.q_occ.specs.Places.{places_of}
use Rattle.q_kernel.specs.Uses.{Groups, AreUses}

-- some literal of the variable has a place
abbrev pub is_listed : Chains → ℕ → Bool
is_listed o v = nat_lt 0 (length (places_of o (record { var = v; negative = true })) + length (places_of o (record { var = v; negative = false })))

-- the variables of a clause occur, beside others
abbrev pub with_clause : Clause → (ℕ → Bool) → ℕ → Bool
with_clause C occ v = occ v || has_variable v C

-- the variables of a clause occur only if they are still in the lists
abbrev pub without_clause : Clause → Chains → (ℕ → Bool) → ℕ → Bool
without_clause C o occ v = if has_variable v C then occ v && is_listed o v else occ v

-- the groups are those of a prefix, for some variables that occur
abbrev pub AreGrouped : Groups → Prefix → Type 0
AreGrouped g P = (occ : ℕ → Bool) × AreUses g P occ

-- the text of pending steps, and how many bytes may come
pub record Logged : Type 0 where
  pub text : List ℕ
  pub spare : ℕ
