-- Numbered clauses: what stands at each number. The rules name clauses by number; a result has none.
use Rattle.std.specs.Prelude.{ℕ, zero, suc, List, [], ◌∷◌, Option, Some, None}
use Rattle.q_logic.specs.Formulas.{Clause, Matrix, Prefix, PrenexFormula}

-- the clause at each number, or none
abbrev pub Slots : Type 0
Slots = List (Option Clause)

-- what stands at a number
abbrev pub slot : Slots → ℕ → Option Clause
slot [] c = None
slot (o ∷ N) zero = o
slot (o ∷ N) (suc c) = slot N c

-- the numbers with something else at one of them
abbrev pub set_slot : ℕ → Option Clause → Slots → Slots
set_slot c o [] = []
set_slot zero o (p ∷ N) = o ∷ N
set_slot (suc c) o (p ∷ N) = p ∷ set_slot c o N

-- the clause, if there is one, before the others
abbrev pub put_first : Option Clause → Matrix → Matrix
put_first None X = X
put_first (Some C) X = C ∷ X

-- all clauses
abbrev pub live : Slots → Matrix
live [] = []
live (o ∷ N) = put_first o (live N)

-- all clauses but the one at the number c
abbrev pub others : ℕ → Slots → Matrix
others c [] = []
others zero (o ∷ N) = live N
others (suc c) (o ∷ N) = put_first o (others c N)

abbrev pub formula_of : Prefix → Matrix → PrenexFormula
formula_of P X = record { prefix = P; matrix = X }

-- the clauses numbered in their order
abbrev pub numbered : Matrix → Slots
numbered [] = []
numbered (C ∷ X) = Some C ∷ numbered X

-- the clauses of some ids
abbrev pub clauses_at : Slots → List ℕ → Matrix
clauses_at N [] = []
clauses_at N (c ∷ cs) = put_first (slot N c) (clauses_at N cs)
