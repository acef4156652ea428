use Rattle.std.proofs.Common.{◌≡◌, ◌≤◌, sym, ◌∙◌, refl, subst, inl, inr, take, List, ℕ, zero, suc, [], ◌∷◌, ap, arith, length, true, true≢false}
use Rattle.q_logic.specs.Prelude.{Literal, is_bound}
use Rattle.q_logic.proofs.Common.{item-in, taken-cases}
use Rattle.q_judge.proofs.checks.binds_all.Goals as goal

take-past : (xs : List Literal) (i : ℕ) → length xs ≤ i → take i xs ≡ xs
take-past [] zero h = refl
take-past [] (suc i) h = refl
take-past (x ∷ xs) zero h = absurd (omega arith)
take-past (x ∷ xs) (suc i) h = ap (λ (ys : List Literal). x ∷ ys) (take-past xs i (omega arith))

pub returns-then-not-binds : goal.returns-then-not-binds
returns-then-not-binds c =
    let m = item-in c.args.clause.now c.loop-k.k-index c.k-item.result c.loop-k-test.true c.k-item.is in
    let e = rw c.var.ensures.value at c.binds.ensures in
    ((λ t. absurd (true≢false (sym t))), (λ w. absurd (true≢false (sym (w c.k-item.result m) ∙ sym e ∙ c.if-not-binds.true))))

pub loop-k-preserved : goal.loop-k-preserved
loop-k-preserved c j m = elim (taken-cases c.args.clause.now c.loop-k.k-index c.k-item.result j c.loop-k-test.true c.k-item.is m) [
  | inl a ↦ c.loop-k.invariant j a
  | inr e ↦ let b = rw c.var.ensures.value at c.binds.ensures in subst (λ (k : Literal). is_bound c.args.scope.now k.var ≡ true) (sym e) (sym b ∙ c.if-not-binds.false)
]

pub returns : goal.returns
returns c = ((λ t. rw (take-past c.args.clause.now c.loop-k.k-index c.loop-k-test.false) at c.loop-k.invariant), (λ w. refl))
