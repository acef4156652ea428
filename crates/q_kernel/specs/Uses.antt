-- The variables of a prefix in three groups: those that no clause holds, and of the others the existentials
-- and the universals.
use Rattle.std.specs.Prelude.{◌≡◌, ◌⊎◌, ◌↔◌, ◌≤◌, ◌<◌, ℕ, Bool, true, false, List, [], ◌∷◌, if◌then◌else◌, ◌==◌, length, slice_index_or}
use Rattle.q_logic.specs.declared.formulas.Quant.{Quant}
use Rattle.q_logic.specs.declared.formulas.Quant.TheVariants.{Exists, Forall}
use Rattle.q_logic.specs.Prelude.{Prefix, is_bound, is_existential, is_universal, same_quant}
use Rattle.q_arena.specs.Prelude.{Has, AreApart, without, Chains, list_at}

pub record Groups : Type 0 where
  pub idle : List ℕ
  pub existentials : List ℕ
  pub universals : List ℕ
  -- variables below this number are reserved
  pub room : ℕ

abbrev pub group_of : Groups → Quant → List ℕ
group_of g Exists = g.existentials
group_of g Forall = g.universals

-- the variable is in one of the groups
abbrev pub IsGrouped : Groups → ℕ → Type 0
IsGrouped g v = Has g.idle v ⊎ Has g.existentials v ⊎ Has g.universals v

-- the number of the list in which the variables of a quantifier stand that some clause holds
abbrev pub head_of : Quant → ℕ
head_of Exists = 1
head_of Forall = 2

-- an idle variable has come to those of its quantifier
pub record IsStarted (old new : Groups) (v : ℕ) (q : Quant) : Type 0 where
  pub idle : new.idle ≡ without v old.idle
  pub group : group_of new q ≡ v ∷ group_of old q
  pub others : (r : Quant) → same_quant q r ≡ false → group_of new r ≡ group_of old r
  pub room : new.room ≡ old.room

-- it has become idle again
pub record IsStopped (old new : Groups) (v : ℕ) (q : Quant) : Type 0 where
  pub idle : new.idle ≡ v ∷ old.idle
  pub group : group_of new q ≡ without v (group_of old q)
  pub others : (r : Quant) → same_quant q r ≡ false → group_of new r ≡ group_of old r
  pub room : new.room ≡ old.room

-- three lists, and each variable of one is tagged with its number
pub record AreTagged (c : Chains) : Type 0 where
  pub heads : 3 ≤ length c.lists
  pub others : (m : ℕ) → 3 ≤ m → list_at c m ≡ []
  pub tags : (m v : ℕ) → Has (list_at c m) v → slice_index_or c.owners v 0 ≡ m
  pub small : (m v : ℕ) → Has (list_at c m) v → v < 4294967296

-- the groups are those of a prefix, by which variables occur
pub record AreUses (g : Groups) (P : Prefix) (occ : ℕ → Bool) : Type 0 where
  pub idle : (v : ℕ) → Has g.idle v ↔ ((is_bound P v ≡ true) × (occ v ≡ false))
  pub existentials : (v : ℕ) → Has g.existentials v ↔ ((is_existential P v ≡ true) × (occ v ≡ true))
  pub universals : (v : ℕ) → Has g.universals v ↔ ((is_universal P v ≡ true) × (occ v ≡ true))
  pub apart_idle : AreApart g.idle
  pub apart_existentials : AreApart g.existentials
  pub apart_universals : AreApart g.universals

-- one variable starts to occur, or stops
abbrev pub with_occurring : ℕ → Bool → (ℕ → Bool) → ℕ → Bool
with_occurring v b occ w = if w == v then b else occ w
