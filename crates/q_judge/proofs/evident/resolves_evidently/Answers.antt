use Rattle.std.proofs.Common.{ℕ, get_or, sym, subst, inl, inr}
use Rattle.std.proofs.lemmas.List.{get_or_default}
use Rattle.q_logic.specs.Prelude.{IsIn}
use Rattle.q_logic.proofs.Common.{taken-cases, taken-all, Contains-IsIn}
use Rattle.q_prop.specs.Slots.{Holds}
use Rattle.q_judge.proofs.SlotCollections.{in-held}
use Rattle.q_judge.proofs.evident.resolves_evidently.Goals as goal

pub loop-at-init : goal.loop-at-init
loop-at-init c n m = absurd m

pub loop-at-preserved : goal.loop-at-preserved
loop-at-preserved c n m D h =
    let xs = c.slots_of-slots.result.now in
    let i = c.loop-at.at-index in
    elim (taken-cases xs i (get_or xs i 0) n c.loop-at-test.true (get_or_default xs i 0 (get_or xs i 0) c.loop-at-test.true) m) [
      | inl b ↦ c.loop-at.invariant n b D h
      | inr q ↦ c.in_ok-is_met.ensures c.if-not-branch.false D (subst (λ (x : ℕ). Holds c.args.view.now.slots x D) q h)
    ]

pub returns : goal.returns
returns c t D d m =
    let s = c.args.view.now.slots in
    let xs = c.slots_of-slots.result.now in
    let n = in-held s D d in
    let l = Contains-IsIn n.0 xs (c.slots_of-slots.ensures.all_there n.0 D n.1 m) in
    c.loop-at.invariant n.0 (subst (λ ys. IsIn n.0 ys) (sym (taken-all xs c.loop-at.at-index c.loop-at-test.false)) l) D n.1
