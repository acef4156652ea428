-- A literal whose negation occurs nowhere may go.
use Rattle.std.proofs.Common.{◌≡◌, ℕ, true, Some}
use Rattle.q_logic.specs.Prelude.{Literal, negation, Clause, Prefix, IsIn, is_universal, Slots, slot, live, others, Reached, Reducible}
use Rattle.q_logic.proofs.Common.{live-slot}
use Rattle.q_rule.proofs.IdClauses.{others-find}

pub absent-reducible : (P : Prefix) (N : Slots) (c : ℕ) (C : Clause) (u : Literal) → slot N c ≡ Some C → is_universal P u.var ≡ true → IsIn u C → ((D : Clause) → IsIn D (live N) → IsIn (negation u) D → ⊥) → Reducible P (others c N) C u
absent-reducible P N c C u e t m none = record { universal_literal = t; in_clause = m; no_negation = λ D r. in_none D r }
  where
    in_none : (D : Clause) → Reached P (others c N) C u D → IsIn (negation u) D → ⊥
    in_none D Reached.first = none C (live-slot N c C e)
    in_none D (Reached.next E k m i e o inX f r) = let d = others-find N c E inX in none E (live-slot N d.0 E d.2)
