use Rattle.std.proofs.Common.{ℕ, get_or, sym, subst, inl, inr}
use Rattle.std.proofs.lemmas.List.{get_or_default}
use Rattle.q_logic.specs.Prelude.{Clause, IsIn}
use Rattle.q_logic.proofs.Common.{Contains-IsIn, taken-cases, taken-all}
use Rattle.q_prop.specs.Slots.{Holds}
use Rattle.q_prop.proofs.BucketLemmas.{same-clause}
use Rattle.q_judge.proofs.SlotCollections.{in-held}
use Rattle.q_judge.proofs.regions.Regions.part.Goals as goal
use Rattle.q_judge.proofs.regions.Regions.part.Goals.{in-Some+else-not-has_none, in_default}

pub loop-at-init : goal.loop-at-init
loop-at-init c n m = absurd m

pub loop-at-preserved : goal.loop-at-preserved
loop-at-preserved c n m D h k a t r =
    let xs = c.slots_of-at-items.result.now in
    let i = c.loop-at.at-index in
    elim (taken-cases xs i (get_or xs i 0) n c.loop-at-test.true (get_or_default xs i 0 (get_or xs i 0) c.loop-at-test.true) m) [
      | inl b ↦ c.loop-at.invariant n b D h k a t r
      | inr q ↦
          let there = subst (λ (x : ℕ). Holds c.args.view.now.slots x D) q h in
          elim c.match-clause.branch [
            | in-Some+else-not-has_none w ↦
                let e = same-clause c.args.view.now.slots (get_or xs i 0) D w.in-Some.clause.now there w.in-Some.ensures.0 in
                (rw (w.scope.ensures, w.var.ensures.value) at (w.has_none.ensures w.if-not-has_none.false)) k (subst (λ (E : Clause). IsIn k E) e a) t r
            | in_default w ↦ w.in_default.ensures D there
          ]
    ]

pub returns : goal.returns
returns c t D d m =
    let xs = c.slots_of-at-items.result.now in
    let n = in-held c.args.view.now.slots D d in
    let l = Contains-IsIn n.0 xs (c.slots_of-at-items.ensures.all_there n.0 D n.1 m) in
    c.loop-at.invariant n.0 (subst (λ ys. IsIn n.0 ys) (sym (taken-all xs c.loop-at.at-index c.loop-at-test.false)) l) D n.1
