-- The clauses of a result are in literal order where those of the formula are.
use Rattle.std.proofs.Common.{Bool, true, false, cond, [], ◌∷◌, inl, inr, sym, subst}
use Rattle.q_logic.specs.Prelude.{Clause, Prefix, IsIn, PrenexFormula, has_empty, occurring, falsity, swept, Slots, live, Target, change, result_of}
use Rattle.q_logic.proofs.InOrder.{InOrder, AreInOrder}
use Rattle.q_logic.proofs.LawsOf.{laws_of}

pub swept-order : (F : PrenexFormula) → AreInOrder F.matrix → AreInOrder (swept F).matrix
swept-order F a = go (has_empty F.matrix)
  where
    empty : (D : Clause) → IsIn D ([] ∷ []) → InOrder D
    empty D (inl e) = subst InOrder (sym e) tt
    empty D (inr m) = elim m [ ]

    go : (b : Bool) → AreInOrder (cond b falsity (record { prefix = occurring F.prefix F.matrix; matrix = F.matrix })).matrix
    go true = empty
    go false = a

pub result-order : (P : Prefix) (N : Slots) (t : Target) → AreInOrder (live N) → AreInOrder (result_of P N t).matrix
result-order P N t a = swept-order (change P N t) ((laws_of t).order P N a)
