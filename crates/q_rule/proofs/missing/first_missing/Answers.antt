use Rattle.std.proofs.Common.{◌≡◌, Some, sym, subst, inl, inr}
use Rattle.q_logic.specs.Prelude.{Literal, Clause, IsIn}
use Rattle.q_logic.proofs.Common.{item-in, taken-cases, taken-all, IsIn-drop}
use Rattle.q_rule.proofs.OrderedClauses.{left-here, left-on}
use Rattle.q_rule.proofs.missing.first_missing.Goals as goal

same : (k j : Literal) → Some k ≡ Some j → k ≡ j
same k j e = cc

pub returns-then-lacks-clause-some : goal.returns-then-lacks-clause-some
returns-then-lacks-clause-some c j e =
    let C = c.args.c.now in
    let k = c.k-item.result in
    let r = c.lacks.ensures.yes c.if-lacks.true in
    subst (λ (x : Literal). IsIn x C × (c.args.aside.now ≡ Some x → ⊥) × (IsIn x c.args.d.now → ⊥)) (same k j e) (
      item-in C c.loop-k.k-index k c.loop-k-test.true c.k-item.is,
      r.1,
      (λ m. r.0 (left-here C c.loop-k.k-index k c.args.d.now c.loop-k.at c.skip_to-at.result c.requires.ordered c.loop-k-test.true c.k-item.is c.skip_to-at.ensures.kept c.loop-k.invariant.rest m)),
    )

pub loop-k-preserved : goal.loop-k-preserved
loop-k-preserved c =
    let C = c.args.c.now in
    let D = c.args.d.now in
    let k = c.k-item.result in
    record {
      passed = λ j m n. elim (taken-cases C c.loop-k.k-index k j c.loop-k-test.true c.k-item.is m) [
        | inl a ↦ c.loop-k.invariant.passed j a n
        | inr e ↦ subst (λ (x : Literal). IsIn x D) (sym e) (IsIn-drop D c.skip_to-at.result k (c.lacks.ensures.no c.if-lacks.false (subst (λ (x : Literal). c.args.aside.now ≡ Some x → ⊥) e n)))
      ];
      rest = left-on C c.loop-k.k-index k D c.loop-k.at c.skip_to-at.result c.requires.ordered c.loop-k-test.true c.k-item.is c.skip_to-at.ensures.kept c.loop-k.invariant.rest;
    }

pub returns-clause-none : goal.returns-clause-none
returns-clause-none c e j m n = c.loop-k.invariant.passed j (subst (λ (xs : Clause). IsIn j xs) (sym (taken-all c.args.c.now c.loop-k.k-index c.loop-k-test.false)) m) n
