use Rattle.std.proofs.Common.{◌≡◌, ◌+◌, ◌++◌, ◌∷◌, [], ℕ, take, sym, ap, subst, ◌∙◌, true≢false}
use Rattle.q_logic.specs.Prelude.{Literal, IsIn, positive, inner_existential}
use Rattle.q_logic.proofs.Common.{taken-cases, taken-more, taken-last, taken-all}
use Rattle.q_expand.specs.Dependents.{IsWidened}
use Rattle.q_expand.proofs.QueuedVariables.{widened-begun, widened-left, widened-pushed}
use Rattle.q_expand.proofs.dependents.push_inner.Goals as goal
use Rattle.q_expand.proofs.dependents.push_inner.Goals.{then-is_inner+then-not-has+in_ok-push, else-is_inner, else-is_inner-via-then-is_inner+else-not-has, else-is_inner-via-else-is_inner}

pub loop-k-init : goal.loop-k-init
loop-k-init c = widened-begun c.args.kernel.now.prefix c.args.u.var c.args.vars.now

pub loop-k-preserved : goal.loop-k-preserved
loop-k-preserved c =
    let n = c.loop-k.k-index in
    let C = take n c.args.clause.now in
    let D = take (n + 1) c.args.clause.now in
    let j = c.k-item.result in
    let P = c.args.kernel.now.prefix in
    let u = c.args.u.var in
    let f = λ (k : Literal). taken-cases c.args.clause.now n j k c.loop-k-test.true c.k-item.is in
    let g = λ (k : Literal). taken-more c.args.clause.now n j k c.loop-k-test.true c.k-item.is in
    let same : c.new-lit.result ≡ positive j.var = c.new-lit.ensures ∙ ap positive c.var.ensures.value in
    let inner : c.is_inner.result ≡ inner_existential P u j.var = c.is_inner.ensures ∙ (ap (λ (x : ℕ). inner_existential P x c.var-in-loop-k.result) c.var-in-loop-k-2.ensures.value ∙ ap (inner_existential P u) c.var-in-loop-k.ensures.value) in
    elim c.if-is_inner.branch [
      | then-is_inner+then-not-has+in_ok-push w ↦
          rw (w.vars-is, w.in_ok-push.ensures.ok)
          (subst (λ (x : Literal). IsWidened P u D c.args.vars.now (c.loop-k.vars ++ x ∷ [])) (sym same)
          (widened-pushed P u C D j c.args.vars.now c.loop-k.vars f g (taken-last c.args.clause.now n j c.loop-k-test.true c.k-item.is) (sym inner ∙ w.if-is_inner.true)
          (λ m. true≢false (sym (w.has.ensures.1 (subst (λ (x : Literal). IsIn x c.loop-k.vars) (sym same) m)) ∙ w.if-not-has.true)) c.loop-k.invariant))
      | else-is_inner w ↦
          rw w.vars-is
          (widened-left P u C D j c.args.vars.now c.loop-k.vars f g (λ t. elim w.else-is_inner.branch [
            | else-is_inner-via-then-is_inner+else-not-has v ↦ subst (λ (x : Literal). IsIn x c.loop-k.vars) same (v.has.ensures.0 v.if-not-has.false)
            | else-is_inner-via-else-is_inner v ↦ absurd (true≢false (sym t ∙ sym inner ∙ v.if-is_inner.false))
          ]) c.loop-k.invariant)
    ]

pub returns : goal.returns
returns c = rw (taken-all c.args.clause.now c.loop-k.k-index c.loop-k-test.false) at c.loop-k.invariant
