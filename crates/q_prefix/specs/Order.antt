-- The order of a prefix, and ranks that tell it.
use Rattle.std.specs.Prelude.{◌≡◌, ◌⊎◌, ◌≤◌, ◌<◌, ℕ, true, false, cond, eqb, List, [], ◌∷◌, length, map, Option, None, Some, slice_get, slice_index_or}
use Rattle.q_logic.specs.declared.formulas.Quant.{Quant}
use Rattle.q_logic.specs.declared.formulas.Quant.TheVariants.{Exists}
use Rattle.q_logic.specs.declared.formulas.Bound.{Bound}
use Rattle.q_logic.specs.Prelude.{IsNext, same_quant}
use Rattle.q_arena.specs.Prelude.{Has, AreApart, without, Chains, list_at, following, preceding}
use Rattle.q_prefix.specs.declared.marks.Mark.{Mark}

-- a prefix, its spare places, and the greatest variable that is reserved
pub record FlatPrefix : Type 0 where
  pub bounds : List Bound
  pub spare : ℕ
  pub greatest : ℕ

-- the quantifier of a variable
abbrev pub quant_of : List Bound → ℕ → Option Quant
quant_of [] v = None
quant_of (b ∷ p) v = cond (eqb b.var v) (Some b.quant) (quant_of p v)

-- what stands directly after a variable
abbrev pub bound_after : List Bound → ℕ → Option Bound
bound_after [] v = None
bound_after (b ∷ p) v = cond (eqb b.var v) (slice_get p 0) (bound_after p v)

-- what stands directly before a variable, behind a first bound
abbrev pub bound_before_from : Bound → List Bound → ℕ → Option Bound
bound_before_from b [] v = None
bound_before_from b (c ∷ p) v = cond (eqb c.var v) (Some b) (bound_before_from c p v)

-- what stands directly before a variable
abbrev pub bound_before : List Bound → ℕ → Option Bound
bound_before [] v = None
bound_before (b ∷ p) v = bound_before_from b p v

-- a bound directly after a variable
abbrev pub with_after : Bound → ℕ → List Bound → List Bound
with_after n w [] = []
with_after n w (b ∷ p) = cond (eqb b.var w) (b ∷ n ∷ p) (b ∷ with_after n w p)

abbrev pub Binds : List Bound → ℕ → Type 0
Binds [] v = ⊥
Binds (b ∷ p) v = (v ≡ b.var) ⊎ Binds p v

abbrev pub IsRankedFrom : (ℕ → ℕ) → Bound → List Bound → Type 0
IsRankedFrom rank b [] = Unit {0}
IsRankedFrom rank b (c ∷ p) = IsNext rank b c × IsRankedFrom rank c p

abbrev pub IsRanked : (ℕ → ℕ) → List Bound → Type 0
IsRanked rank [] = Unit {0}
IsRanked rank (b ∷ p) = IsRankedFrom rank b p

-- what is known of a variable
abbrev pub no_mark : Mark
no_mark = record { quant = Exists; bound = false; rank = 0 }

abbrev pub mark_at : List Mark → ℕ → Mark
mark_at marks v = slice_index_or marks v no_mark

abbrev pub bound_of : List Mark → ℕ → Bound
bound_of marks v = record { quant = (mark_at marks v).quant; var = v }

abbrev pub rank_of : List Mark → ℕ → ℕ
rank_of marks v = (mark_at marks v).rank

abbrev pub bounds_of : List Mark → List ℕ → List Bound
bounds_of marks vars = map (bound_of marks) vars

-- the first list holds the variables in order, and the marks tell of each
pub record IsPrefix (order : Chains) (marks : List Mark) : Type 0 where
  pub heads : 1 ≤ length order.lists
  pub others : (m : ℕ) → 1 ≤ m → list_at order m ≡ []
  pub bound : (v : ℕ) → Has (list_at order 0) v → (mark_at marks v).bound ≡ true
  pub bounds : (v : ℕ) → (mark_at marks v).bound ≡ true → Has (list_at order 0) v
  pub room : length marks ≤ length order.owners
  pub some : 0 < length marks
  pub few : length marks < 4294967296
  pub ranked : IsRanked (rank_of marks) (bounds_of marks (list_at order 0))

-- the bound that comes before the others has their first one's rank, or a lower one
abbrev pub IsRankBefore : (ℕ → ℕ) → Bound → ℕ → List Bound → Type 0
IsRankBefore rank b r [] = Unit {0}
IsRankBefore rank b r (c ∷ p) = ((same_quant b.quant c.quant ≡ true) × (r ≡ rank c.var)) ⊎ ((same_quant b.quant c.quant ≡ false) × (r < rank c.var))

-- the list from which a variable went, with what stood beside it
pub record IsParted (order : Chains) (marks : List Mark) (before after : Option ℕ) : Type 0 where
  pub vars : List ℕ
  pub gone : ℕ
  pub there : Has vars gone
  pub apart : AreApart vars
  pub before_is : before ≡ preceding gone vars
  pub after_is : after ≡ following gone vars
  pub left : list_at order 0 ≡ without gone vars
  pub within : (v : ℕ) → Has vars v → v < length marks
  pub ranked : IsRanked (rank_of marks) (bounds_of marks vars)

-- the first bound has this rank, which is no less than a number
abbrev pub IsFirstRank : (ℕ → ℕ) → ℕ → ℕ → List Bound → Type 0
IsFirstRank rank r low [] = Unit {0}
IsFirstRank rank r low (b ∷ p) = (rank b.var ≡ r) × (low ≤ r)
