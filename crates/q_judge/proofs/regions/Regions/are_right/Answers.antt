use Rattle.std.proofs.Common.{ℕ, Some, subst, inl, inr, arith}
use Rattle.std.proofs.lemmas.Option.{slice_get_within}
use Rattle.q_logic.specs.Prelude.{Clause}
use Rattle.q_logic.proofs.Common.{before_or_at}
use Rattle.q_prop.specs.Slots.{Holds}
use Rattle.q_prop.proofs.BucketLemmas.{same-clause}
use Rattle.q_judge.specs.Regions.{IsRegional}
use Rattle.q_judge.proofs.SlotCollections.{in-held}
use Rattle.q_judge.proofs.regions.Regions.are_right.Goals as goal
use Rattle.q_judge.proofs.regions.Regions.are_right.Goals.{in-Some+else-not-fit, in_default}

pub loop-at-init : goal.loop-at-init
loop-at-init c n D h e = absurd (omega arith)

pub loop-at-preserved : goal.loop-at-preserved
loop-at-preserved c n D h e = elim (before_or_at n c.loop-at.at h) [
  | inl a ↦ c.loop-at.invariant n D a e
  | inr q ↦
      let there = subst (λ (m : ℕ). Holds c.args.view.now.slots m D) q e in
      elim c.match-clause.branch [
        | in-Some+else-not-fit w ↦
            subst (λ (E : Clause). IsRegional c.args.view.now.prefix c.args.self.now E) (same-clause c.args.view.now.slots c.loop-at.at w.in-Some.clause.now D w.in-Some.ensures.0 there) (rw w.scope.ensures at (w.fit.ensures w.if-not-fit.false))
        | in_default w ↦ absurd (w.in_default.ensures D there)
      ]
]

pub returns : goal.returns
returns c t u D m =
    let n = in-held c.args.view.now.slots D m in
    let h = slice_get_within c.args.view.now.slots n.0 (Some D) n.1 in
    c.loop-at.invariant n.0 D (omega (arith, h, c.loop-at-test.false, c.slots-at-end.ensures)) n.1
