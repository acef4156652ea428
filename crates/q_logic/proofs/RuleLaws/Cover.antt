-- The laws of Cover: the clause comes in its grown form, and each form goes by the next.
use Rattle.std.proofs.Common.{◌≤◌, ◌+◌, ◌*◌, ℕ, length, [], inl, inr, arith, refl, ap, subst}
use Rattle.q_logic.specs.Prelude.{Literal, Clause, Matrix, IsIn, greatest, live, others, formula_of, cover, change}
use Rattle.q_logic.specs.Covering.{Covers}
use Rattle.q_logic.proofs.Heights.{weight}
use Rattle.q_logic.proofs.Ways.{at-most, lits-weight}
use Rattle.q_logic.proofs.InOrder.{others-order}
use Rattle.q_logic.proofs.MeasureFalls.{falls-gone}
use Rattle.q_logic.proofs.CoverRun.{cover-run}
use Rattle.q_logic.proofs.RuleLaws.{Laws, empty-none, false_true}

covers-none : (X : Matrix) (S : Clause) → ((D : Clause) → IsIn D X → ⊥) → ((k : Literal) → IsIn k S → ⊥) → Covers [] X S → ⊥
covers-none X S n e (Covers.ended R (inl t)) = e t.0 t.1
covers-none X S n e (Covers.ended R (inr t)) = false_true t.2
covers-none X S n e (Covers.grown R (inl h) c) = n h.by h.there
covers-none X S n e (Covers.grown R (inr h) c) = false_true h.existential

twice : (g x : ℕ) → g ≤ 16777215 → x ≤ 134217728 → 2 * (2 * g + 2) + x ≤ 3 * 134217728
twice g x i j = omega arith

pub laws : (c : ℕ) → Laws (cover c)
laws c = record {
  run = λ B P N f m a. at-most 1 (2 * (2 * greatest P + 2) + weight length (live N)) (formula_of P (live N)) (change P N (cover c)) (omega arith) (twice (greatest P) (weight length (live N)) m.vars (lits-weight P (live N) m)) (cover-run B P N c f.closed a.fits);
  distinct = λ P N d. d;
  falls = λ B P N h. falls-gone B P N c h.0 h.1;
  order = λ P N o. others-order c N o;
  renumbered = λ B P M N r h. record {
    target = cover (r.number c);
    fits = (h.0, r.there c h.0 h.1, subst (λ (X : Matrix). Covers P X h.0) (r.beside c h.0 h.1) h.2);
    changed = ap (formula_of P) (r.beside c h.0 h.1);
    kept = λ i. ap cover (i c);
  };
  nothing = λ B N o a h. covers-none (others c N) h.0 (λ D m. a c h.0 D h.1 m) (λ k m. empty-none N c h.0 k o h.1 m) h.2;
  decided = λ B P N n o. absurd (n c refl);
}
