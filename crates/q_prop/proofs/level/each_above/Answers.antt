use Rattle.std.proofs.Common.{◌++◌, arith, refl, sym, ◌∙◌, subst, true≢false, inl, inr}
use Rattle.std.proofs.lemmas.Bool.{cases_eq}
use Rattle.std.proofs.lemmas.Option.{slice_get_within}
use Rattle.q_logic.specs.Prelude.{Clause, Implied}
use Rattle.q_prop.specs.Slots.{without, filled}
use Rattle.q_prop.proofs.PropagationSteps.{moved-trans}
use Rattle.q_prop.proofs.AssumedLevels.{level_kept}
use Rattle.q_prop.proofs.SlotLemmas.{same_slice_get, slice_get-Contains, Contains-slice_get}
use Rattle.q_prop.proofs.level.each_above.Goals as goal

pub is_above-requires-clause-level : goal.is_above-requires-clause-level
is_above-requires-clause-level c =
    rw c.loop-i.invariant.0 (level_kept c.args.watched.now c.args.level.now c.args.trail.now c.loop-i.watched c.requires.level c.loop-i.invariant.1)

pub returns-in_err-is_above-clause-moved : goal.returns-in_err-is_above-clause-moved
returns-in_err-is_above-clause-moved c =
    moved-trans c.args.trail.now c.args.trail.now c.args.watched.now c.loop-i.watched c.is_above.new.watched (λ l h. h) c.loop-i.invariant.1 (rw c.loop-i.invariant.0 at c.is_above.ensures.moved)

pub returns-then-not-branch-clause-moved : goal.returns-then-not-branch-clause-moved
returns-then-not-branch-clause-moved c =
    moved-trans c.args.trail.now c.args.trail.now c.args.watched.now c.loop-i.watched c.is_above.new.watched (λ l h. h) c.loop-i.invariant.1 (rw c.loop-i.invariant.0 at c.is_above.ensures.moved)

pub returns-then-not-branch-clause-exact : goal.returns-then-not-branch-clause-exact
returns-then-not-branch-clause-exact c =
    let x = rw c.loop-i.invariant.1.same at c.in_ok-is_above.ensures.exact in
    let there = Contains-slice_get c.args.tails.now c.loop-i.i c.tail.result.now c.tail.ensures in (
      (λ e. absurd (true≢false (sym e))),
      (λ all. absurd (true≢false (sym (x.1 (all c.tail.result.now there)) ∙ c.if-not-branch.true))),
    )

pub loop-i-preserved : goal.loop-i-preserved
loop-i-preserved c =
    let x = rw c.loop-i.invariant.1.same at c.in_ok-is_above.ensures.exact in
    let v = c.args.level.now in (
      c.is_above.ensures.same ∙ c.loop-i.invariant.0,
      moved-trans c.args.trail.now c.args.trail.now c.args.watched.now c.loop-i.watched c.is_above.new.watched (λ l h. h) c.loop-i.invariant.1 (rw c.loop-i.invariant.0 at c.is_above.ensures.moved),
      (λ j t l e. elim (cases_eq j c.loop-i.i) [
        | inl q ↦
            let same = same_slice_get c.args.tails.now c.loop-i.i c.tail.result.now t c.tail.ensures (rw q at e) in
            subst (λ (z : Clause). Implied (filled (without c.args.watched.now.clauses.slots v.skip)) (v.lits.now ++ z)) same (x.0 c.if-not-branch.false)
        | inr n ↦ c.loop-i.invariant.2 j t (omega (arith, l, n)) e
      ]),
    )

pub returns-clause-exact : goal.returns-clause-exact
returns-clause-exact c = (
  (λ _ t h.
      let j = slice_get-Contains c.args.tails.now t h in
      let inside = slice_get_within c.args.tails.now j.0 t j.1 in
      c.loop-i.invariant.2 j.0 t (omega (arith, inside, c.loop-i-test.false, c.len-i-end.ensures)) j.1),
  (λ all. refl),
)
