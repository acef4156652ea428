use Rattle.std.proofs.Common.{◌≡◌, ◌∙◌, true, sym, ap, subst, inl, inr, true≢false}
use Rattle.std.proofs.lemmas.Option.{same_Some}
use Rattle.q_logic.specs.Prelude.{Literal, inner_existential}
use Rattle.q_reduce.specs.Regions.{region_of}
use Rattle.q_logic.proofs.Common.{item-in, taken-cases}
use Rattle.q_reduce.proofs.regions.Regions.region_in.Goals as goal

pub returns-then-is_inner-clause-some : goal.returns-then-is_inner-clause-some
returns-then-is_inner-clause-some c r e =
    let P = c.args.kernel.now.prefix in (
      c.k-item.result,
      item-in c.args.clause.now c.loop-k.k-index c.k-item.result c.loop-k-test.true c.k-item.is,
      ap (inner_existential P c.args.u) (sym c.var.ensures.value) ∙ (sym c.is_inner.ensures ∙ c.if-is_inner.true),
      ap (region_of c.args.self.now) (sym c.var-then-is_inner.ensures.value) ∙ (sym c.region_of.ensures ∙ same_Some c.region_of.result r e),
    )

pub loop-k-preserved : goal.loop-k-preserved
loop-k-preserved c k m t = elim (taken-cases c.args.clause.now c.loop-k.k-index c.k-item.result k c.loop-k-test.true c.k-item.is m) [
  | inl a ↦ c.loop-k.invariant k a t
  | inr e ↦
      let P = c.args.kernel.now.prefix in
      let here = subst (λ (x : Literal). inner_existential P c.args.u x.var ≡ true) e t in
      true≢false (sym here ∙ (ap (inner_existential P c.args.u) (sym c.var.ensures.value) ∙ (sym c.is_inner.ensures ∙ c.if-is_inner.false)))
]
