-- Clauses that a walk along the list of a literal has met.
use Rattle.std.proofs.Common.{◌≡◌, ℕ, List, [], ◌∷◌, ◌++◌, Contains, Some, sym, subst, inl, inr, arith}
use Rattle.std.proofs.lemmas.List.Elements.{Contains-push_cases}
use Rattle.q_logic.specs.Prelude.{Literal, Clause, IsIn, Slots, slot, others}
use Rattle.q_rule.proofs.IdClauses.{others-find}
use Rattle.q_blocked.specs.Walks.{IsBeside}

-- each clause that was met, but c, is so
pub record HasPassed (N : Slots) (c : ℕ) (met : List ℕ) (Q : Clause → Type 0) : Type 0 where
  pub each : (d : ℕ) (E : Clause) → Contains met d → IsBeside N c d E → Q E

pub passed-begun : (N : Slots) (c : ℕ) (Q : Clause → Type 0) → HasPassed N c [] Q
passed-begun N c Q = record { each = λ d E h b. absurd (let i = h.1 in omega arith) }

pub passed-one : (N : Slots) (c : ℕ) (met : List ℕ) (d : ℕ) (Q : Clause → Type 0) → ((E : Clause) → IsBeside N c d E → Q E) → HasPassed N c met Q → HasPassed N c (met ++ d ∷ []) Q
passed-one N c met d Q q f = record {
  each = λ r E m b. elim (Contains-push_cases met d r m) [
    | inl a ↦ f.each r E a b
    | inr e ↦ q E (subst (λ (x : ℕ). IsBeside N c x E) (sym e) b)
  ];
}

pub passed-map : (N : Slots) (c : ℕ) (met : List ℕ) (Q R : Clause → Type 0) → ((E : Clause) → Q E → R E) → HasPassed N c met Q → HasPassed N c met R
passed-map N c met Q R q f = record { each = λ d E m b. q E (f.each d E m b) }

-- at the end all are so
pub passed-all : (N : Slots) (c : ℕ) (k : Literal) (met : List ℕ) (Q : Clause → Type 0) → ((d : ℕ) (E : Clause) → slot N d ≡ Some E → IsIn k E → Contains met d) → HasPassed N c met Q → (E : Clause) → IsIn E (others c N) → IsIn k E → Q E
passed-all N c k met Q has f E m i = let d = others-find N c E m in f.each d.0 E (has d.0 E d.2 i) (d.1, d.2)
