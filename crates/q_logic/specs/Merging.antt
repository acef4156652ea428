-- Equivalent literals: each is joined to the other by clauses of two literals. (The conditions are this project's own.)
use Rattle.std.specs.Prelude.{◌≡◌, ◌≢◌, ℕ, zero, suc, Bool, true, false, cond, eqb, [], ◌∷◌, ◌⊎◌}
use Rattle.q_logic.specs.Clauses.{insert}
use Rattle.q_logic.specs.Sweep.{has_variable}
use Rattle.q_logic.specs.Literals.{Literal, negation, literal_eq}
use Rattle.q_logic.specs.Formulas.{Clause, Matrix, Prefix, IsIn}
use Rattle.q_logic.specs.Prefixes.{is_existential, outer_or_same}
use Rattle.q_logic.specs.Sets.{has, union, put_unless_tautology}
use Rattle.q_logic.specs.Measure.{size_of}

-- not x and y are two literals that together are a clause
pub record Binary (X : Matrix) (x y : Literal) : Type 0 where
  pub clause : Clause
  pub there : IsIn clause X
  pub two : negation x ≢ y
  pub first : IsIn (negation x) clause
  pub second : IsIn y clause
  pub only : (k : Literal) → IsIn k clause → (k ≡ negation x) ⊎ (k ≡ y)

-- a list of such clauses leads from a literal to q
pub data Joined (X : Matrix) (q : Literal) : Literal → Type 0 where
  here : Joined X q q
  on : {y : Literal} → (x : Literal) → Binary X x y → Joined X q y → Joined X q x

-- keep or its negation takes the place of gone or its negation
abbrev pub renamed_literal : Literal → Literal → Literal → Literal
renamed_literal keep gone k =
    cond (literal_eq k gone) keep (cond (literal_eq k (negation gone)) (negation keep) k)

abbrev pub renamed : Literal → Literal → Clause → Clause
renamed keep gone [] = []
renamed keep gone (k ∷ C) = insert (renamed_literal keep gone k) (renamed keep gone C)

-- a clause that becomes a tautology goes
abbrev pub merged_one : Literal → Literal → Clause → Matrix → Matrix
merged_one keep gone C X =
    cond (has_variable gone.var C) (put_unless_tautology (renamed keep gone C) X) (C ∷ X)

abbrev pub merged : Literal → Literal → Matrix → Matrix
merged keep gone [] = []
merged keep gone (C ∷ X) = merged_one keep gone C (merged keep gone X)

pub record Mergeable (P : Prefix) (X : Matrix) (keep gone : Literal) : Type 0 where
  pub different : eqb keep.var gone.var ≡ false
  pub existential : is_existential P gone.var ≡ true
  pub kept_outer : outer_or_same P keep.var gone.var ≡ true
  pub to_gone : Joined X gone keep
  pub to_keep : Joined X keep gone

-- The plain program: all literals that p is joined to, turn by turn.
abbrev pub pair_from : Clause → Clause → Clause
pair_from [] L = []
pair_from (a ∷ []) L = []
pair_from (a ∷ b ∷ []) L =
    union (cond (has (negation a) L) (b ∷ []) []) (cond (has (negation b) L) (a ∷ []) [])
pair_from (a ∷ b ∷ c ∷ C) L = []

abbrev pub join_once : Matrix → Clause → Clause
join_once [] L = L
join_once (D ∷ X) L = union (pair_from D L) (join_once X L)

abbrev pub join_often : ℕ → Matrix → Clause → Clause
join_often zero X L = L
join_often (suc n) X L = join_once X (join_often n X L)

abbrev pub joined : Matrix → Literal → Literal → Bool
joined X p q = has q (join_often (suc (size_of X)) X (p ∷ []))
