-- Literals that came hidden.
use Rattle.std.proofs.Common.{◌≡◌, ◌≢◌, Bool, true, not, ◌&&◌, sym, ◌∙◌, ap, subst, true≢false}
use Rattle.q_logic.specs.Prelude.{Literal, negation, Clause, Matrix, Prefix, IsIn, outer_or_same, keeps, IsTautology}
use Rattle.q_logic.proofs.Common.{IsIn-outer, literal_eq-itself}
use Rattle.q_blocked.specs.Walks.{CoversNothing}
use Rattle.q_blocked.proofs.Clashes.{IsClear, clear-none}

-- a literal is not in its own outer clause
itself : (P : Prefix) (m : Literal) → keeps P m m ≡ true → ⊥
itself P m h = true≢false (sym h ∙ ap (λ (b : Bool). not b && outer_or_same P m.var m.var) (literal_eq-itself m))

other : (P : Prefix) (m k : Literal) → keeps P m k ≡ true → k ≢ m
other P m k h e = itself P m (subst (λ (x : Literal). keeps P m x ≡ true) e h)

-- a clause with not l, whose other literals are in S, does not clash, and gives S nothing that it has not
pub given-closed : (P : Prefix) (X : Matrix) (S D : Clause) (l : Literal) → (IsTautology S → ⊥) → IsIn D X → IsIn (negation l) D → ((j : Literal) → IsIn j D → j ≢ negation l → IsIn j S) → CoversNothing P X l S
given-closed P X S D l t m n h = (
  (D, m, n, clear-none P l S D clear),
  λ k i. let r = IsIn-outer P (negation l) D k (i D m n (clear-none P l S D clear)) in h k r.0 (other P (negation l) k r.1),
)
  where
    clear : IsClear P l S D
    clear k i q o = t (k, h k i (other P (negation l) k q), o)
