-- A formula in parts, as the code holds it: the literals of all clauses in one row, and where each clause
-- ends.
use Rattle.std.specs.Prelude.{◌≡◌, ◌≢◌, ◌⊎◌, ℕ, ◌≤◌, ◌<◌, ◌^◌, List, [], ◌∷◌, length, slice_range}
use Rattle.std.specs.List.{AllByRecursion}
use Rattle.q_logic.specs.Literals.{Literal, IsBelow}
use Rattle.q_logic.specs.Formulas.{Matrix, Prefix, PrenexFormula}
use Rattle.q_logic.specs.Prefixes.{IsFormula}
use Rattle.std.proofs.Common.{zero, suc}

-- the clauses between the ends
abbrev pub clauses_between : List Literal → ℕ → List ℕ → Matrix
clauses_between lits from [] = []
clauses_between lits from (e ∷ ends) = slice_range lits from e ∷ clauses_between lits e ends

-- the ends never fall, and the last one is the number of literals
abbrev pub AreEnds : ℕ → List ℕ → ℕ → Type 0
AreEnds from [] n = from ≡ n
AreEnds from (e ∷ ends) n = (from ≤ e) × AreEnds e ends n

-- each two literals of the list, in their order, are related
abbrev pub ArePairs : {X : Type 0} → (X → X → Type 0) → List X → Type 0
ArePairs R [] = Unit {0}
ArePairs R (x ∷ xs) = AllByRecursion (R x) xs × ArePairs R xs

-- the variable is bound by the prefix
abbrev pub IsBound : Prefix → ℕ → Type 0
IsBound [] v = ⊥
IsBound (q ∷ p) v = (q.var ≡ v) ⊎ IsBound p v

-- what a formula is made from
pub record AreLawful (prefix : Prefix) (lits : List Literal) (ends : List ℕ) : Type 0 where
  pub distinct : ArePairs (λ q r. q.var ≢ r.var) prefix
  pub ranges : AllByRecursion (λ q. (1 ≤ q.var) × (q.var < 2 ^ 31)) prefix
  pub in_order : AreEnds 0 ends (length lits)
  pub ordered : AllByRecursion (ArePairs IsBelow) (clauses_between lits 0 ends)
  pub bound : AllByRecursion (λ l. IsBound prefix l.var) lits

-- a formula that the code may hold: its variables are in range, and its clauses in literal order
pub record IsProper (F : PrenexFormula) : Type 0 where
  pub formula : IsFormula F
  pub ranges : AllByRecursion (λ q. (1 ≤ q.var) × (q.var < 2 ^ 31)) F.prefix
  pub ordered : AllByRecursion (ArePairs IsBelow) F.matrix

-- where the clause at a place begins
abbrev pub start_of : ℕ → List ℕ → ℕ → ℕ
start_of from ends zero = from
start_of from [] (suc k) = from
start_of from (e ∷ ends) (suc k) = start_of e ends k
