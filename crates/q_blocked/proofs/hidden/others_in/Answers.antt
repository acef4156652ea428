use Rattle.std.proofs.Common.{◌≢◌, subst, sym, inl, inr, refl, true≢false}
use Rattle.q_logic.specs.Prelude.{Literal, Clause, IsIn}
use Rattle.q_logic.proofs.CoverRun.{in_or_not}
use Rattle.q_logic.proofs.Common.{item-in, taken-cases, taken-all, test-false}
use Rattle.q_blocked.proofs.hidden.others_in.Goals as goal

pub loop-j-init : goal.loop-j-init
loop-j-init c k m d = absurd m

pub returns-then-is_other_outside : goal.returns-then-is_other_outside
returns-then-is_other_outside c =
    let r = c.is_other_outside.ensures.0 c.if-is_other_outside.true in
    let m = item-in c.args.clause.now c.loop-j.j-index c.j-item.result c.loop-j-test.true c.j-item.is in
    ((λ t. absurd (true≢false (sym t))), λ z. absurd (r.1 (z c.j-item.result m r.0)))

pub loop-j-preserved : goal.loop-j-preserved
loop-j-preserved c i m d = elim (taken-cases c.args.clause.now c.loop-j.j-index c.j-item.result i c.loop-j-test.true c.j-item.is m) [
  | inl a ↦ c.loop-j.invariant i a d
  | inr e ↦ elim (in_or_not i c.args.set.now) [
    | inl x ↦ x
    | inr n ↦ absurd (test-false c.is_other_outside.result c.is_other_outside.ensures c.if-is_other_outside.false (subst (λ (x : Literal). (x ≢ c.args.k) × (IsIn x c.args.set.now → ⊥)) e (d, n)))
  ]
]

pub returns : goal.returns
returns c =
    let h : (i : Literal) → IsIn i c.args.clause.now → i ≢ c.args.k → IsIn i c.args.set.now = subst (λ (D : Clause). (i : Literal) → IsIn i D → i ≢ c.args.k → IsIn i c.args.set.now) (taken-all c.args.clause.now c.loop-j.j-index c.loop-j-test.false) c.loop-j.invariant in
    ((λ t. h), λ z. refl)
