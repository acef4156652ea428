-- What is counted of a clause at a node of a search, and of all clauses.
use Rattle.std.specs.Prelude.{◌≡◌, ◌<◌, ◌≤◌, ℕ, ◌+◌, Bool, true, false, cond, not, ◌&&◌, eqb, List, [], ◌∷◌, length, slice_index_or}
use Rattle.q_logic.specs.Prelude.{Literal, literal_eq, Clause, Matrix, is_tautology}
use Rattle.q_logic.specs.declared.verdict.Verdict.{Verdict}
use Rattle.q_logic.specs.declared.verdict.Verdict.TheVariants.{Lost, Won, Open}
use Rattle.q_logic.specs.declared.verdict.Standing.{Standing}
use Rattle.q_logic.specs.declared.verdict.Standing.TheVariants.{True, False, Chosen, Free}
use Rattle.q_logic.specs.Decisions.{is_true}
use Rattle.q_solve.specs.declared.counts.Count.{Count}

-- n, or nothing
abbrev pub if_so : Bool → ℕ → ℕ
if_so b n = cond b n 0

-- a value is still to be chosen
abbrev pub is_chosen : Standing → Bool
is_chosen True = false
is_chosen False = false
is_chosen Chosen = true
is_chosen Free = false

-- how many literals of the clause have a property, by what is known of them
abbrev pub how_many : (Standing → Bool) → (Literal → Standing) → Clause → ℕ
how_many w g [] = 0
how_many w g (k ∷ C) = if_so (w (g k)) 1 + how_many w g C

abbrev pub count_of : (Literal → Standing) → Clause → Count
count_of g C = record { trues = how_many is_true g C; opens = how_many is_chosen g C; both = is_tautology C }

-- the clause has no true literal
abbrev pub is_untrue : Count → Bool
is_untrue c = eqb c.trues 0

-- nor one that could become true by choice, and no variable in both signs
abbrev pub is_lost : Count → Bool
is_lost c = not c.both && (eqb c.trues 0 && eqb c.opens 0)

-- how many counts of a row have a property
abbrev pub number_of : (Count → Bool) → List Count → ℕ
number_of p [] = 0
number_of p (c ∷ cs) = if_so (p c) 1 + number_of p cs

pub record AreTotals (row : List Count) (untrue lost : ℕ) : Type 0 where
  pub untrue_are : untrue ≡ number_of is_untrue row
  pub lost_are : lost ≡ number_of is_lost row

-- a lost clause loses the node, and it is won if each clause has a true literal
abbrev pub verdict_of : List Count → Verdict
verdict_of row = cond (eqb (number_of is_lost row) 0) (cond (eqb (number_of is_untrue row) 0) Won Open) Lost

-- how often a number stands in a row
abbrev pub times : ℕ → List ℕ → ℕ
times n [] = 0
times n (m ∷ ms) = if_so (eqb m n) 1 + times n ms

-- how often the literal stands in the clause
abbrev pub times_in : Literal → Clause → ℕ
times_in l [] = 0
times_in l (k ∷ C) = if_so (literal_eq k l) 1 + times_in l C

abbrev pub clause_at : Matrix → ℕ → Clause
clause_at X i = slice_index_or X i []

abbrev pub count_at : List Count → ℕ → Count
count_at row i = slice_index_or row i (record { trues = 0; opens = 0; both = false })

abbrev pub row_at : List (List ℕ) → ℕ → List ℕ
row_at rows n = slice_index_or rows n []

-- the counts of all clauses, by what is known of literals
pub record AreCounts (X : Matrix) (g : Literal → Standing) (row : List Count) : Type 0 where
  pub as_many : length row ≡ length X
  pub each : (i : ℕ) → count_at row i ≡ count_of g (clause_at X i)

-- the row has the places of the clauses that hold the literal, each as often as it holds it
abbrev pub AreHolders : Matrix → Literal → List ℕ → Type 0
AreHolders X l at' = (i : ℕ) → times i at' ≡ times_in l (clause_at X i)

-- a clause with one literal more
pub record IsGrown (old new : Count) (s : Standing) : Type 0 where
  pub trues : new.trues ≡ old.trues + if_so (is_true s) 1
  pub opens : new.opens ≡ old.opens + if_so (is_chosen s) 1
  pub both : new.both ≡ old.both

-- n literals of a clause change what is known of them
pub record IsMoved (old new : Count) (n : ℕ) (from to : Standing) : Type 0 where
  pub trues : new.trues + if_so (is_true from) n ≡ old.trues + if_so (is_true to) n
  pub opens : new.opens + if_so (is_chosen from) n ≡ old.opens + if_so (is_chosen to) n
  pub both : new.both ≡ old.both

-- n literals can change
pub record CanMove (c : Count) (n : ℕ) (from to : Standing) : Type 0 where
  pub trues : if_so (is_true from) n ≤ c.trues
  pub opens : if_so (is_chosen from) n ≤ c.opens
  pub trues_small : c.trues < 18446744073709551616
  pub opens_small : c.opens < 18446744073709551616
  pub trues_fit : c.trues + if_so (is_true to) n < 18446744073709551616 + if_so (is_true from) n
  pub opens_fit : c.opens + if_so (is_chosen to) n < 18446744073709551616 + if_so (is_chosen from) n

-- what is known of a literal changes; a row has the places of the clauses that hold it
pub record CanShift (row : List Count) (at' : List ℕ) (from to : Standing) : Type 0 where
  pub there : (i : ℕ) → length row ≤ i → times i at' ≡ 0
  pub each : (i : ℕ) → CanMove (count_at row i) (times i at') from to

pub record IsShifted (old new : List Count) (at' : List ℕ) (from to : Standing) : Type 0 where
  pub as_many : length new ≡ length old
  pub each : (i : ℕ) → IsMoved (count_at old i) (count_at new i) (times i at') from to

-- the same of one literal, others as before
abbrev pub changed : Literal → Standing → (Literal → Standing) → Literal → Standing
changed l s g k = cond (literal_eq k l) s (g k)
