-- Regions of variables: the existential literals of a clause that are inner to one variable lie in one region.
use Rattle.std.specs.Prelude.{◌≡◌, ℕ, Bool, true, false, cond, List, slice_index_or}
use Rattle.q_logic.specs.Prelude.{Literal, Clause, Matrix, Prefix, IsIn, is_universal, inner_existential}
use Rattle.q_pages.specs.ByNumber.{Values, value_at}

-- the label of each variable, and which labels are regions of their own
pub record Labelled : Type 0 where
  pub labels : Values ℕ
  pub live : List Bool

abbrev pub label_of : Labelled → ℕ → ℕ
label_of L v = value_at L.labels v

-- the region of a variable: its label, or 0 where that is no region of its own
abbrev pub region_of : Labelled → ℕ → ℕ
region_of L v = cond (slice_index_or L.live (label_of L v) false) (label_of L v) 0

-- what was one region is still one
abbrev pub IsCoarser : Labelled → Labelled → Type 0
IsCoarser old new = (a b : ℕ) → region_of old a ≡ region_of old b → region_of new a ≡ region_of new b

-- regions for the literals that are inner to a variable
pub record RegionMap : Type 0 where
  pub var : ℕ
  pub labels : Labelled

-- the clause has its literals that are inner to a variable in the region
abbrev pub HasAllIn : Prefix → ℕ → Labelled → ℕ → Clause → Type 0
HasAllIn P u L region D = (k : Literal) → IsIn k D → inner_existential P u k.var ≡ true → region_of L k.var ≡ region

-- the clause has none of them in the region
abbrev pub HasNoneIn : Prefix → ℕ → Labelled → ℕ → Clause → Type 0
HasNoneIn P u L region D = (k : Literal) → IsIn k D → inner_existential P u k.var ≡ true → region_of L k.var ≡ region → ⊥

-- the clause has its inner literals in one region
abbrev pub IsRegional : Prefix → RegionMap → Clause → Type 0
IsRegional P R D =
    (j k : Literal) → IsIn j D → IsIn k D → inner_existential P R.var j.var ≡ true →
    inner_existential P R.var k.var ≡ true → region_of R.labels j.var ≡ region_of R.labels k.var

-- so has each clause, as long as the variable is universal
abbrev pub AreRegions : Prefix → Matrix → RegionMap → Type 0
AreRegions P X R = is_universal P R.var ≡ true → (D : Clause) → IsIn D X → IsRegional P R D

-- the regions of several variables are right
abbrev pub AreRegionsOf : Prefix → Matrix → List RegionMap → Type 0
AreRegionsOf P X Rs = (R : RegionMap) → IsIn R Rs → AreRegions P X R
