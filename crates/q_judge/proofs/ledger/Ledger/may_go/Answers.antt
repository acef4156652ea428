use Rattle.std.proofs.Common.{◌≡◌, Bool, true, false, not, refl, inl, inr}
use Rattle.q_logic.specs.Prelude.{Literal, negation, Clause, Matrix, Prefix, IsIn, Reached, IsDroppable}
use Rattle.q_judge.proofs.ledger.Ledger.may_go.Goals as goal

negated : (P : Prefix) (X : Matrix) (C : Clause) (l : Literal) → IsIn (negation l) C → IsDroppable P X C l → ⊥
negated P X C l m (inl h) = h.not_negated m
negated P X C l m (inr h) = h.no_negation C Reached.first m

not-true : (b : Bool) → (b ≡ true → ⊥) → not b ≡ true
not-true true n = absurd (n refl)
not-true false n = refl

pub returns-then-is_universal-clause-no : goal.returns-then-is_universal-clause-no
returns-then-is_universal-clause-no c X h =
    let m = rw c.negated.ensures at c.holds.ensures in
    not-true c.holds.result (λ e. negated c.args.self.now.prefix X c.args.clause.now c.args.lit (m.0 e) h)
