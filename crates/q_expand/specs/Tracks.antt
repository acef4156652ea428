-- A list of valid steps that are still to come, and the room that they take.
use Rattle.std.specs.Prelude.{◌≡◌, ◌≤◌, ◌+◌, ◌*◌, ℕ, List, [], ◌∷◌, ◌++◌, length, Some}
use Rattle.q_logic.specs.Prelude.{Clause, PrenexFormula, ProofStep, add, delete, drop_literal, fresh, remove_variable, standard, slot, ValidSteps, AreAlike}
use Rattle.q_kernel.specs.Prelude.{Seen, slots, formula_in, IsLed}

-- bytes that suffice for the text of the steps
abbrev pub price : ProofStep → ℕ
price (add p C) = 16 * (length C + 1)
price (delete p C) = 16 * (length C + 1)
price (drop_literal l C) = 16 * (length C + 1)
price (fresh v w) = 32
price (remove_variable v) = 16

-- words, ids and variables that the steps take
abbrev pub words_for : ProofStep → ℕ
words_for (add p C) = length C
words_for (delete p C) = 0
words_for (drop_literal l C) = 0
words_for (fresh v w) = 0
words_for (remove_variable v) = 0

abbrev pub ids_for : ProofStep → ℕ
ids_for (add p C) = 1
ids_for (delete p C) = 0
ids_for (drop_literal l C) = 0
ids_for (fresh v w) = 0
ids_for (remove_variable v) = 0

abbrev pub vars_for : ProofStep → ℕ
vars_for (add p C) = 0
vars_for (delete p C) = 0
vars_for (drop_literal l C) = 0
vars_for (fresh v w) = 1
vars_for (remove_variable v) = 0

abbrev pub total : (ProofStep → ℕ) → List ProofStep → ℕ
total f [] = 0
total f (s ∷ ss) = f s + total f ss

-- a fresh variable is reserved
abbrev pub IsReserved : ℕ → ProofStep → Type 0
IsReserved m (add p C) = Unit {0}
IsReserved m (delete p C) = Unit {0}
IsReserved m (drop_literal l C) = Unit {0}
IsReserved m (fresh v w) = v ≤ m
IsReserved m (remove_variable v) = Unit {0}

abbrev pub AreReserved : ℕ → List ProofStep → Type 0
AreReserved m [] = Unit {0}
AreReserved m (s ∷ ss) = IsReserved m s × AreReserved m ss

-- the steps lead to a formula, there is room for them, and so many bytes are left then
pub record IsOnTrack (k : Seen) (ss : List ProofStep) (later : ℕ) (G : PrenexFormula) : Type 0 where
  pub last : PrenexFormula
  pub valid : ValidSteps standard (formula_in k) ss last
  pub alike : AreAlike last G
  pub bytes : total price ss + later ≤ k.spare_bytes
  pub words : total words_for ss ≤ k.arena.spare_words
  pub ids : total ids_for ss ≤ k.arena.spare_ids
  pub vars : total vars_for ss ≤ k.spare_vars
  pub reserved : AreReserved k.greatest ss

-- these steps may be taken, perhaps with others after them
abbrev pub CanTake : Seen → List ProofStep → Type 0
CanTake k ss = (rest : List ProofStep) × (later : ℕ) × (G : PrenexFormula) × IsOnTrack k (ss ++ rest) later G

-- these steps were taken; others that were to come after them are still to come
pub record HasTaken (old new : Seen) (ss : List ProofStep) : Type 0 where
  pub led : IsLed old new
  pub track : (rest : List ProofStep) (later : ℕ) (G : PrenexFormula) → IsOnTrack old (ss ++ rest) later G → IsOnTrack new rest later G

-- the clauses keep their ids
abbrev pub KeepsClauses : Seen → Seen → Type 0
KeepsClauses old new = (c : ℕ) (C : Clause) → slot (slots old) c ≡ Some C → slot (slots new) c ≡ Some C
