-- What has been read of a formula, and what becomes of it.
use Rattle.std.specs.Prelude.{◌≡◌, ◌≢◌, ℕ, ◌+◌, ◌<◌, ◌≤◌, ◌^◌, ◌==◌, ◌&&◌, ◌||◌, not, Bool, false, List, [], ◌∷◌, ◌++◌, length, if◌then◌else◌, slice_index_or, suc, zero, max, Result, OnOk}
use Rattle.std.specs.List.{AllByRecursion}
use Rattle.q_logic.specs.declared.formulas.Quant.TheVariants.{Exists}
use Rattle.q_logic.specs.Prelude.{IsBelow, Literal, Matrix, Prefix, PrenexFormula, is_bound, ArePairs}

-- the sets so far, the clauses that have ended, and the literals of the next, as they were written
pub record Built : Type 0 where
  pub bounds : Prefix
  pub clauses : Matrix
  pub pending : List Literal

abbrev pub occurs_in : List Literal → ℕ → Bool
occurs_in [] v = false
occurs_in (l ∷ ls) v = (l.var == v) || occurs_in ls v

abbrev pub occurs : Matrix → ℕ → Bool
occurs [] v = false
occurs (c ∷ cs) v = occurs_in c v || occurs cs v

-- the greatest variable of a clause, of a matrix
abbrev pub greatest_in : List Literal → ℕ
greatest_in [] = 0
greatest_in (l ∷ ls) = max l.var (greatest_in ls)

abbrev pub greatest : Matrix → ℕ
greatest [] = 0
greatest (c ∷ cs) = max (greatest_in c) (greatest cs)

-- the n variables from v on that pass the test, ascending, as existentials
abbrev pub bounds_from : (ℕ → Bool) → ℕ → ℕ → Prefix
bounds_from t v zero = []
bounds_from t v (suc n) = if t v then record { quant = Exists; var = v } ∷ bounds_from t (v + 1) n else bounds_from t (v + 1) n

-- the variable stands in a clause but in no set
abbrev pub is_free : Prefix → Matrix → ℕ → Bool
is_free p x v = occurs x v && not (is_bound p v)

-- the formula of the sets and the clauses: the free variables come first
abbrev pub formula_of : Prefix → Matrix → PrenexFormula
formula_of p x = record { prefix = bounds_from (is_free p x) 1 (greatest x) ++ p; matrix = x }

-- what the marks say of the sets and the clauses
pub record AreParts (prefix : Prefix) (bound : List Bool) (matrix : Matrix) (used : List Bool) (pending : List Literal) : Type 0 where
  pub distinct : ArePairs (λ q r. q.var ≢ r.var) prefix
  pub ranges : AllByRecursion (λ q. (1 ≤ q.var) × (q.var < 2 ^ 31)) prefix
  pub ordered : AllByRecursion (ArePairs IsBelow) matrix
  pub short : length used ≤ 2 ^ 31
  pub never : slice_index_or used 0 false ≡ false
  pub bounds : (v : ℕ) → slice_index_or bound v false ≡ is_bound prefix v
  pub uses : (v : ℕ) → slice_index_or used v false ≡ (occurs matrix v || occurs_in pending v)

-- the same by marks
abbrev pub is_marked_free : List Bool → List Bool → ℕ → Bool
is_marked_free bound used v = slice_index_or used v false && not (slice_index_or bound v false)

-- the marks reach the variable, unless memory runs out, and say the same as before
pub record Reaches {X E : Type 0} (r : Result X E) (old new : List Bool) (var : ℕ) : Type 0 where
  pub reached : OnOk r (var < length new)
  pub same : (v : ℕ) → slice_index_or new v false ≡ slice_index_or old v false
  pub short : length old ≤ 2 ^ 31 → length new ≤ 2 ^ 31
