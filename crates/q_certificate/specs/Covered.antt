-- Variables that have a circuit or are inputs.
use Rattle.std.specs.Prelude.{◌≡◌, ℕ, ◌+◌, Bool, true, List, ◌⊎◌, length}
use Rattle.q_logic.specs.Prelude.{Literal, Clause, IsIn, Strategy, given, literals_in, UndoEntry, pivot, removed, freshened}

abbrev pub IsCovered : (ℕ → Bool) → Strategy → Literal → Type 0
IsCovered U c k = (given (c k.var) ≡ true) ⊎ (U k.var ≡ true)

abbrev pub ClauseCovered : (ℕ → Bool) → Strategy → Clause → Type 0
ClauseCovered U c O = (k : Literal) → IsIn k O → IsCovered U c k

abbrev pub OutersCovered : (ℕ → Bool) → Strategy → List Clause → Type 0
OutersCovered U c outers = (O : Clause) → IsIn O outers → ClauseCovered U c O

abbrev pub EntryCovered : (ℕ → Bool) → UndoEntry → Strategy → Type 0
EntryCovered U (pivot l outers) c = OutersCovered U c outers
EntryCovered U (removed v) c = Unit {0}
EntryCovered U (freshened v) c = Unit {0}

-- the literals and the clauses of an entry
abbrev pub weight : UndoEntry → ℕ
weight (pivot l outers) = literals_in outers + length outers
weight (removed v) = 0
weight (freshened v) = 0
