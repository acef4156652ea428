-- What an entry asks of the circuits, and what it costs.
use Rattle.std.specs.Prelude.{◌≡◌, ℕ, ◌+◌, Bool, true, false, List, [], ◌∷◌, length}
use Rattle.q_logic.specs.Prelude.{Literal, Clause, IsIn, Reads, Strategy, circuit_of, given, literals_in}
use Rattle.q_certificate.specs.Prelude.{ClauseCovered, OutersCovered}
use Rattle.q_logic.specs.Reversals.{Reversal, added, turned, plain, freshened, removed, Forth}

-- the circuits of the literals do not read v
abbrev pub OutersClear : ℕ → Strategy → List Clause → Type 0
OutersClear v c outers = (O : Clause) → IsIn O outers → (k : Literal) → IsIn k O → given (c k.var) ≡ true →
    ¬ Reads (circuit_of c k.var) v

abbrev pub EntryCovered : (ℕ → Bool) → Reversal → Strategy → Type 0
EntryCovered U (added l outers) c = (U l.var ≡ true) × OutersCovered U c outers × OutersClear l.var c outers
EntryCovered U (turned l outers) c = OutersCovered U c outers
EntryCovered U (plain l same within) c = ClauseCovered U c same
EntryCovered U (freshened v) c = U v ≡ true
EntryCovered U (removed v) c = Unit {0}

-- what an entry makes false has a circuit, and what it puts a circuit in place of has none
abbrev pub EntryOwned : Reversal → Strategy → Type 0
EntryOwned (added l outers) c = given (c l.var) ≡ false
EntryOwned (turned l outers) c = given (c l.var) ≡ true
EntryOwned (plain l same within) c = (k : Literal) → IsIn k (l ∷ within) → given (c k.var) ≡ true
EntryOwned (freshened v) c = given (c v) ≡ false
EntryOwned (removed v) c = Unit {0}

-- so it is whenever an entry is taken
abbrev pub AreCovered : (ℕ → Bool) → List Reversal → Strategy → Type 0
AreCovered U [] c = Unit {0}
AreCovered U (r ∷ rs) c = EntryCovered U r (Forth rs c) × EntryOwned r (Forth rs c) × AreCovered U rs c

-- the literals and the clauses of an entry; a plain one counts as one clause
abbrev pub weight : Reversal → ℕ
weight (added l outers) = literals_in outers + length outers
weight (turned l outers) = literals_in outers + length outers
weight (plain l same within) = length same + length within + 2
weight (freshened v) = 0
weight (removed v) = 0

abbrev pub weights : List Reversal → ℕ
weights [] = 0
weights (r ∷ rs) = weight r + weights rs
