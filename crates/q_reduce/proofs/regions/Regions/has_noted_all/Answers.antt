use Rattle.std.proofs.Common.{◌≡◌, ◌∙◌, true, sym, ap, subst, inl, inr, true≢false}
use Rattle.q_logic.specs.Prelude.{Literal, IsIn}
use Rattle.q_reduce.specs.Regions.{is_covered, key_of}
use Rattle.q_logic.proofs.Common.{taken-cases, taken-all}
use Rattle.q_reduce.proofs.regions.Regions.has_noted_all.Goals as goal
use Rattle.q_reduce.proofs.regions.Regions.has_noted_all.Goals.{else-covers-via-then-covers+else-not-has_noted, else-covers-via-else-covers}

pub loop-l-preserved : goal.loop-l-preserved
loop-l-preserved c k m t = elim (taken-cases c.args.clause.now c.loop-l.l-index c.l-item.result k c.loop-l-test.true c.l-item.is m) [
  | inl a ↦ c.loop-l.invariant k a t
  | inr e ↦ subst (λ (x : Literal). IsIn (key_of x c.args.region) c.args.self.now.keys) (sym e) (elim c.else-covers.branch [
    | else-covers-via-then-covers+else-not-has_noted w ↦ w.has_noted.ensures.0 w.if-not-has_noted.false
    | else-covers-via-else-covers w ↦
        let here = subst (λ (x : Literal). is_covered c.args.self.now x.var ≡ true) e t in
        absurd (true≢false (sym here ∙ (ap (is_covered c.args.self.now) (sym c.var.ensures.value) ∙ (sym c.covers.ensures ∙ w.if-covers.false))))
  ])
]

pub returns : goal.returns
returns c t l m = c.loop-l.invariant l (subst (λ xs. IsIn l xs) (sym (taken-all c.args.clause.now c.loop-l.l-index c.loop-l-test.false)) m)
