use Rattle.std.proofs.Common.{◌≡◌, ◌∙◌, Option, Some, inl, inr, refl, sym, subst}
use Rattle.q_logic.specs.Prelude.{Literal, negation, Clause, Matrix, Prefix, Implied, IsWarranted}
use Rattle.q_logic.proofs.Common.{test-false}
use Rattle.q_prop.specs.Slots.{filled, without}
use Rattle.q_judge.specs.Warrants.{Resolves}
use Rattle.q_judge.proofs.pivots.warrant_of.Goals as goal

same : (k l : Literal) → Some k ≡ Some l → k ≡ l
same k l e = cc

-- a clause that is not implied and does not resolve on its first literal has no warrant
unresolved : (P : Prefix) (X : Matrix) (C : Clause) (p : Option Literal) (k : Literal) → p ≡ Some k → (Resolves P X C (negation k) → ⊥) → (Implied X C → ⊥) → IsWarranted P X C p → ⊥
unresolved P X C p k e f i (inl h) = i h
unresolved P X C p k e f i (inr (l, g, h)) = f (subst (λ (j : Literal). Resolves P X C (negation j)) (sym (same k l (sym e ∙ g))) h.implied)

pub returns-then-not-branch-clause-exact : goal.returns-then-not-branch-clause-exact
returns-then-not-branch-clause-exact c =
    let x = rw (c.in_ok-implied.ensures.same, c.negated.ensures) at c.in_ok-resolves.ensures.exact in
    let X = filled (without c.args.store.now c.args.candidate.now.skip) in
    rw c.refusal-then-not-branch.ensures (
      refl,
      unresolved c.args.scope.now X c.args.candidate.now.clause.now c.args.candidate.now.first c.in-Some.pivot c.in-Some.is (test-false c.in_ok-resolves.field-0 x c.if-not-branch.true) (test-false c.in_ok-implied.field-0 c.in_ok-implied.ensures.exact c.if-branch.false),
    )
