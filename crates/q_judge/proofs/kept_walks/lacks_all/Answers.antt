use Rattle.std.proofs.Common.{Contains, sym, ap, ◌∙◌, subst, inl, inr}
use Rattle.q_logic.specs.Prelude.{Literal, negation, IsIn}
use Rattle.q_logic.proofs.Common.{negation-negation, test-false, taken-cases, taken-all}
use Rattle.q_judge.proofs.kept_walks.lacks_all.Goals as goal

pub loop-k-init : goal.loop-k-init
loop-k-init c j m = absurd m

pub loop-k-preserved : goal.loop-k-preserved
loop-k-preserved c j m h = elim (taken-cases c.args.clause.now c.loop-k.k-index c.k-item.result j c.loop-k-test.true c.k-item.is m) [
  | inl a ↦ c.loop-k.invariant j a h
  | inr e ↦ test-false c.has.result c.has.ensures c.if-has.false (subst (λ (i : Literal). Contains c.args.known.now i) (ap negation e ∙ sym c.negated.ensures) h)
]

pub returns : goal.returns
returns c t k h m =
    let i = subst (λ xs. IsIn (negation k) xs) (sym (taken-all c.args.clause.now c.loop-k.k-index c.loop-k-test.false)) m in
    c.loop-k.invariant (negation k) i (subst (λ (j : Literal). Contains c.args.known.now j) (sym (negation-negation k)) h)
