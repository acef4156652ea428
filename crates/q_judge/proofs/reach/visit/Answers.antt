use Rattle.std.proofs.Common.{◌≡◌, ◌∙◌, true, false, Some, sym, subst, get_or}
use Rattle.q_logic.specs.Prelude.{Literal}
use Rattle.q_prop.specs.Slots.{filled}
use Rattle.q_prop.proofs.SlotLemmas.{slice_get-at}
use Rattle.q_judge.specs.Walks.{IsVisited}
use Rattle.q_judge.proofs.ReachWalks.{following-more, following-visited, visited-not}
use Rattle.q_judge.proofs.reach.visit.Goals as goal

same : (k l : Literal) → Some k ≡ Some l → k ≡ l
same k l e = cc

pub returns-then-not-branch : goal.returns-then-not-branch
returns-then-not-branch c k e =
    let V = c.args.view.now in
    let h = rw c.negated.ensures at c.slots_of-slots.ensures in
    let g = slice_get-at c.slots_of-slots.result.now c.loop-i.i 0 c.loop-i-test.true in
    let f = rw c.if-not-branch.true at c.in_ok-follow.ensures in
    let v = visited-not V.prefix c.args.u V.slots c.at-lit.result c.slots_of-slots.result.now c.loop-i.i (get_or c.slots_of-slots.result.now c.loop-i.i 0) c.args.trail.now c.loop-i.trail c.follow.new.trail h g f in
    subst (λ (j : Literal). IsVisited V.prefix (filled V.slots) c.args.u j c.args.trail.now c.follow.new.trail false) (same c.at-lit.result k (sym c.at-lit.ensures ∙ e)) v

pub loop-i-preserved : goal.loop-i-preserved
loop-i-preserved c =
    let V = c.args.view.now in
    let g = slice_get-at c.slots_of-slots.result.now c.loop-i.i 0 c.loop-i-test.true in
    let f = rw c.if-not-branch.false at c.in_ok-follow.ensures in
    following-more V.prefix c.args.u V.slots c.slots_of-slots.result.now c.loop-i.i (get_or c.slots_of-slots.result.now c.loop-i.i 0) c.args.trail.now c.loop-i.trail c.follow.new.trail c.loop-i.invariant g f

pub returns : goal.returns
returns c k e =
    let V = c.args.view.now in
    let h = rw c.negated.ensures at c.slots_of-slots.ensures in
    let v = following-visited V.prefix c.args.u V.slots c.at-lit.result c.slots_of-slots.result.now c.loop-i.i c.args.trail.now c.loop-i.trail h c.loop-i-test.false c.loop-i.invariant in
    subst (λ (j : Literal). IsVisited V.prefix (filled V.slots) c.args.u j c.args.trail.now c.loop-i.trail true) (same c.at-lit.result k (sym c.at-lit.ensures ∙ e)) v
