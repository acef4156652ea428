use Rattle.std.proofs.Common.{◌≡◌, ◌∙◌, true, sym, ap, subst, inl, inr, true≢false}
use Rattle.q_logic.specs.Prelude.{Literal, inner_existential}
use Rattle.q_reduce.specs.Regions.{region_of}
use Rattle.q_logic.proofs.Common.{taken-cases}
use Rattle.q_reduce.proofs.regions.Regions.has_one.Goals as goal
use Rattle.q_reduce.proofs.regions.Regions.has_one.Goals.{else-is_inner-via-then-is_inner+else-region_of-region, else-is_inner-via-else-is_inner}

pub loop-k-preserved : goal.loop-k-preserved
loop-k-preserved c k m t = elim (taken-cases c.args.clause.now c.loop-k.k-index c.k-item.result k c.loop-k-test.true c.k-item.is m) [
  | inl a ↦ c.loop-k.invariant k a t
  | inr e ↦ subst (λ (x : Literal). region_of c.args.self.now x.var ≡ c.args.region) (sym e) (elim c.else-is_inner.branch [
    | else-is_inner-via-then-is_inner+else-region_of-region w ↦ ap (region_of c.args.self.now) (sym w.var-then-is_inner.ensures.value) ∙ (sym w.region_of.ensures ∙ w.if-region_of-region.false)
    | else-is_inner-via-else-is_inner w ↦
        let here = subst (λ (x : Literal). inner_existential c.args.kernel.now.prefix c.args.w x.var ≡ true) e t in
        absurd (true≢false (sym here ∙ (ap (inner_existential c.args.kernel.now.prefix c.args.w) (sym c.var.ensures.value) ∙ (sym c.is_inner.ensures ∙ w.if-is_inner.false))))
  ])
]
