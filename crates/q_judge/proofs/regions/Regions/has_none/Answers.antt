use Rattle.std.proofs.Common.{◌∙◌, sym, ap, subst, inl, inr, true≢false}
use Rattle.q_logic.specs.Prelude.{Literal, IsIn, inner_existential}
use Rattle.q_judge.specs.Regions.{region_of}
use Rattle.q_logic.proofs.Common.{taken-cases, taken-all}
use Rattle.q_judge.proofs.regions.Regions.has_none.Goals as goal
use Rattle.q_judge.proofs.regions.Regions.has_none.Goals.{else-is_inner-via-then-is_inner+else-region_of-region, else-is_inner-via-else-is_inner}

pub loop-k-init : goal.loop-k-init
loop-k-init c k m = absurd m

pub loop-k-preserved : goal.loop-k-preserved
loop-k-preserved c k m t r = elim (taken-cases c.args.clause.now c.loop-k.k-index c.k-item.result k c.loop-k-test.true c.k-item.is m) [
  | inl a ↦ c.loop-k.invariant k a t r
  | inr e ↦
      let v = ap (λ (j : Literal). j.var) e ∙ sym c.var.ensures.value in
      elim c.else-is_inner.branch [
        | else-is_inner-via-then-is_inner+else-region_of-region w ↦
            w.if-region_of-region.false (w.region_of.ensures ∙ ap (region_of c.args.self.now.labels) (w.var-then-is_inner.ensures.value ∙ sym (ap (λ (j : Literal). j.var) e)) ∙ r)
        | else-is_inner-via-else-is_inner w ↦
            true≢false (sym t ∙ ap (inner_existential c.args.scope.now c.args.u) v ∙ sym c.is_inner.ensures ∙ w.if-is_inner.false)
      ]
]

pub returns : goal.returns
returns c t k m = c.loop-k.invariant k (subst (λ xs. IsIn k xs) (sym (taken-all c.args.clause.now c.loop-k.k-index c.loop-k-test.false)) m)
