-- Sums of some resolvents, clause by clause.
use Rattle.std.proofs.Common.{◌≡◌, ◌≤◌, ◌+◌, ◌++◌, ℕ, Bool, true, false, cond, List, ◌∷◌, length, drop, get_or, Some, None, arith, sym, ap, subst, ◌<◌, ◌-◌, ◌^◌, min}
use Rattle.q_logic.specs.Prelude.{Literal, IsBelow, ArePairs, Slots, slot, clauses_at, Clause, Matrix, without, size_of, union, is_tautology, put_unless_tautology}
use Rattle.q_eliminate.specs.Gains.{joined, joined_length}
use Rattle.q_eliminate.specs.Plans.{IsPlain}
use Rattle.q_eliminate.proofs.IdWalks.{at-next}
use Rattle.q_eliminate.proofs.GainCounts.{joined-next_some, joined-next_none}

size-put : (U : Clause) (X : Matrix) → size_of X ≤ size_of (put_unless_tautology U X)
size-put U X = go (is_tautology U)
  where
    go : (b : Bool) → size_of X ≤ size_of (cond b X (U ∷ X))
    go true = omega arith
    go false = omega arith

module _ (N : Slots) (ids : List ℕ) (i : ℕ) (A : Clause) (m : Literal) (D : Clause) (h : i < length ids) (e : slot N (get_or ids i 0) ≡ Some D) where
  -- a clause that is left out
  pub sum-skipped : size_of (joined A m (clauses_at N (drop (i + 1) ids))) ≤ size_of (joined A m (clauses_at N (drop i ids)))
  sum-skipped = subst (λ (X : Matrix). size_of (joined A m (clauses_at N (drop (i + 1) ids))) ≤ size_of (joined A m X)) (sym (at-next N ids i D h e)) (size-put (union A (without m D)) (joined A m (clauses_at N (drop (i + 1) ids))))

  -- a clause that is added
  pub sum-added : (n : ℕ) → ArePairs IsBelow A → ArePairs IsBelow D → IsPlain A → IsPlain D → joined_length A (without m D) ≡ Some n → n + 1 + size_of (joined A m (clauses_at N (drop (i + 1) ids))) ≡ size_of (joined A m (clauses_at N (drop i ids)))
  sum-added n o p a b f =
      let r = joined-next_some N ids i A m D h e n o p a b f in
      let s = ap size_of r.0 in let t = r.1 in omega arith

-- the sum with a clause more, as it is counted
pub sum-step : (sum n a b : ℕ) → a ≡ min (sum + n) (2 ^ 64 - 1) → b ≡ min (a + 1) (2 ^ 64 - 1) → b ≤ sum + (n + 1)
sum-step sum n a b e f = omega arith
