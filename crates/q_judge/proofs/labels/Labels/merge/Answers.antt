use Rattle.std.proofs.Common.{◌≡◌, ◌∙◌, ℕ, Bool, true, false, cond, eqb, refl, sym, ap, subst, inl, inr, arith}
use Rattle.std.proofs.lemmas.Bool.Decides.{nat_tests}
use Rattle.q_logic.specs.Prelude.{Literal, IsIn}
use Rattle.q_judge.specs.Regions.{region_of}
use Rattle.q_logic.proofs.Common.{taken-cases, taken-all}
use Rattle.q_judge.proofs.labels.Labels.merge.Goals as goal

-- the region that goes, and another one
abbrev united : ℕ → ℕ → ℕ
united r x = cond (eqb x r) 0 x

united-itself : (r x : ℕ) → r ≡ x → united r x ≡ 0
united-itself r x e = let q : eqb x r ≡ true = grind (arith, nat_tests) in rw q refl

neither : (b : Bool) (x : ℕ) → cond b x x ≡ x
neither true x = refl
neither false x = refl

united-none : (r : ℕ) → united r 0 ≡ 0
united-none r = neither (eqb 0 r) 0

pub loop-k-init : goal.loop-k-init
loop-k-init c = ((λ k m. absurd m), (λ a b e. e))

pub loop-k-preserved : goal.loop-k-preserved
loop-k-preserved c =
    let r = c.region_of-region.result in (
      (λ k m. elim (taken-cases c.args.clause.now c.loop-k.k-index c.k-item.result k c.loop-k-test.true c.k-item.is m) [
        | inl a ↦ c.unite.ensures k.var ∙ ap (united r) (c.loop-k.invariant.0 k a) ∙ united-none r
        | inr e ↦ c.unite.ensures k.var ∙ united-itself r (region_of c.loop-k.self k.var) (c.region_of-region.ensures ∙ ap (region_of c.loop-k.self) (c.var.ensures.value ∙ sym (ap (λ (j : Literal). j.var) e)))
      ]),
      (λ a b e. c.unite.ensures a ∙ ap (united r) (c.loop-k.invariant.1 a b e) ∙ sym (c.unite.ensures b)),
    )

pub returns-clause-one : goal.returns-clause-one
returns-clause-one c k m = c.loop-k.invariant.0 k (subst (λ xs. IsIn k xs) (sym (taken-all c.args.clause.now c.loop-k.k-index c.loop-k-test.false)) m)

pub returns-clause-coarser : goal.returns-clause-coarser
returns-clause-coarser c = c.loop-k.invariant.1
