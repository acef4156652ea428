-- Regions of variables: the existential literals of a clause that are inner to a universal variable lie in one region.
use Rattle.std.specs.Prelude.{◌≡◌, ◌+◌, ◌*◌, ℕ, Bool, true, false, List, [], slice_index_or}
use Rattle.q_logic.specs.Prelude.{Literal, pack, Clause, Matrix, Prefix, IsIn, is_universal, inner_existential, live}
use Rattle.q_kernel.specs.Prelude.{Seen, slots}

-- the region of each variable, the universal variables that the regions are for, and the literals of these that are
-- noted, each with a region in which it stands
pub record RegionMap : Type 0 where
  pub labels : List ℕ
  pub covered : List Bool
  pub keys : List ℕ

-- no regions are known
abbrev pub no_regions : RegionMap
no_regions = record { labels = []; covered = []; keys = [] }

abbrev pub region_of : RegionMap → ℕ → ℕ
region_of R v = slice_index_or R.labels v 0

abbrev pub is_covered : RegionMap → ℕ → Bool
is_covered R u = slice_index_or R.covered u false

-- a literal and a region as one number
abbrev pub key_of : Literal → ℕ → ℕ
key_of l r = pack l * 4294967296 + r

-- the inner literals of the clause lie in one region, with which its literals of covered variables are noted
pub record IsRegional (P : Prefix) (R : RegionMap) (u : ℕ) (D : Clause) : Type 0 where
  pub one : (j k : Literal) → IsIn j D → IsIn k D → inner_existential P u j.var ≡ true →
      inner_existential P u k.var ≡ true → region_of R j.var ≡ region_of R k.var
  pub noted : (l k : Literal) → IsIn l D → is_covered R l.var ≡ true → IsIn k D →
      inner_existential P u k.var ≡ true → IsIn (key_of l (region_of R k.var)) R.keys

-- so for each clause and each universal variable that is covered
abbrev pub AreRegions : Prefix → Matrix → RegionMap → Type 0
AreRegions P X R =
    (u : ℕ) → is_universal P u ≡ true → is_covered R u ≡ true → (D : Clause) → IsIn D X →
    IsRegional P R u D

-- the regions of several blocks are right for the formula of a kernel
abbrev pub AreRegionsOf : Seen → List RegionMap → Type 0
AreRegionsOf k Rs = (R : RegionMap) → IsIn R Rs → AreRegions k.prefix (live (slots k)) R
