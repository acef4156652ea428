use Rattle.std.proofs.Common.{◌-◌, arith, refl, sym, ◌∙◌, true≢false, inl, inr}
use Rattle.std.proofs.lemmas.Bool.{cases_lt}
use Rattle.std.proofs.lemmas.Option.{slice_get_within}
use Rattle.q_prop.proofs.SlotLemmas.{slice_get-Contains}
use Rattle.q_judge.proofs.PivotOuters.{in-range, range-in}
use Rattle.q_judge.proofs.pivots.resolves_all.Goals as goal

pub returns-then-not-branch-clause-exact : goal.returns-then-not-branch-clause-exact
returns-then-not-branch-clause-exact c =
    let x = rw c.loop-from.invariant.0 at c.in_ok-resolves_group.ensures.exact in
    let from = c.loop-from.from in
    let end = c.min-end.result in (
      (λ e. absurd (true≢false (sym e))),
      (λ r. absurd (true≢false (sym (x.1 (λ n D k h. r n D (range-in c.args.slots.now from (end - from) n k) h)) ∙ c.if-not-branch.true))),
    )

pub loop-from-preserved : goal.loop-from-preserved
loop-from-preserved c =
    let x = rw c.loop-from.invariant.0 at c.in_ok-resolves_group.ensures.exact in
    let from = c.loop-from.from in
    let end = c.min-end.result in (
      c.resolves_group.ensures.same ∙ c.loop-from.invariant.0,
      omega (arith, c.loop-from.invariant.1, c.saturating_mul-size.ensures),
      (λ j n D l e h. elim (cases_lt j from) [
        | inl b ↦ c.loop-from.invariant.2 j n D b e h
        | inr g ↦ x.0 c.if-not-branch.false n D (in-range c.args.slots.now from (end - from) j n g (omega (arith, g, l)) e) h
      ]),
    )

pub returns-clause-exact : goal.returns-clause-exact
returns-clause-exact c = (
  (λ _ n D k h.
      let j = slice_get-Contains c.args.slots.now n k in
      let inside = slice_get_within c.args.slots.now j.0 n j.1 in
      c.loop-from.invariant.2 j.0 n D (omega (arith, inside, c.loop-from-test.false)) j.1 h),
  (λ r. refl),
)
