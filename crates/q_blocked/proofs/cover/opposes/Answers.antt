use Rattle.std.proofs.Common.{◌≡◌, ◌↔◌, true, refl, sym, subst, inl, inr, true≢false}
use Rattle.q_logic.specs.Prelude.{Literal, negation, Clause, IsIn}
use Rattle.q_logic.proofs.Common.{item-in, taken-cases, taken-all, test-false}
use Rattle.q_blocked.proofs.cover.opposes.Goals as goal

pub loop-k-init : goal.loop-k-init
loop-k-init c j m n = m

pub returns-then-has : goal.returns-then-has
returns-then-has c =
    let h : c.has.result ≡ true ↔ IsIn (negation c.k-item.result) c.args.set.now = rw c.negated.ensures at c.has.ensures in
    let r : (k : Literal) × IsIn k c.args.lits.now × IsIn (negation k) c.args.set.now = (c.k-item.result, item-in c.args.lits.now c.loop-k.k-index c.k-item.result c.loop-k-test.true c.k-item.is, h.0 c.if-has.true) in
    ((λ t. r), λ z. refl)

pub loop-k-preserved : goal.loop-k-preserved
loop-k-preserved c j m n =
    let h : c.has.result ≡ true ↔ IsIn (negation c.k-item.result) c.args.set.now = rw c.negated.ensures at c.has.ensures in
    elim (taken-cases c.args.lits.now c.loop-k.k-index c.k-item.result j c.loop-k-test.true c.k-item.is m) [
      | inl a ↦ c.loop-k.invariant j a n
      | inr e ↦ test-false c.has.result h c.if-has.false (subst (λ (x : Literal). IsIn (negation x) c.args.set.now) e n)
    ]

pub returns : goal.returns
returns c =
    let h : (j : Literal) → IsIn j c.args.lits.now → IsIn (negation j) c.args.set.now → ⊥ = subst (λ (D : Clause). (j : Literal) → IsIn j D → IsIn (negation j) c.args.set.now → ⊥) (taken-all c.args.lits.now c.loop-k.k-index c.loop-k-test.false) c.loop-k.invariant in
    ((λ t. absurd (true≢false (sym t))), λ z. absurd (h z.0 z.1 z.2))
