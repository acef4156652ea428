-- Walks along the clauses of two literals, literal by literal; and levels of literals that never rise on the way.
use Rattle.std.specs.Prelude.{◌≡◌, ◌≤◌, ◌⊎◌, ℕ, List, ◌++◌, slice_index_or}
use Rattle.q_logic.specs.Prelude.{Literal, pack, Matrix, IsIn, Binary, Joined}

-- the level of a literal: 0 where the list has none
abbrev pub level_of : List ℕ → Literal → ℕ
level_of levels l = slice_index_or levels (pack l) 0

-- no clause of two literals leads to a higher level
abbrev pub NeverRise : List ℕ → Matrix → Type 0
NeverRise levels X = (x y : Literal) → Binary X x y → level_of levels y ≤ level_of levels x

-- the list has grown at its end by literals of the level of x to which a clause of two literals leads from x, and has
-- all of them
pub record IsSpread (levels : List ℕ) (X : Matrix) (x : Literal) (old new : List Literal) : Type 0 where
  pub added : List Literal
  pub is : new ≡ old ++ added
  pub all_there : (y : Literal) → Binary X x y → level_of levels y ≡ level_of levels x → IsIn y new
  pub no_other : (y : Literal) → IsIn y new → IsIn y old ⊎ (Binary X x y × (level_of levels y ≡ level_of levels x))

-- the list has the literals of the level of x to which clauses of two literals lead from x on that level
pub record IsGathered (levels : List ℕ) (X : Matrix) (x : Literal) (known : List Literal) : Type 0 where
  pub linked : (k : Literal) → IsIn k known → Joined X k x
  pub level : (k : Literal) → IsIn k known → level_of levels k ≡ level_of levels x
  pub all_there : NeverRise levels X → (k : Literal) → level_of levels k ≡ level_of levels x → Joined X k x → IsIn k known
