use Rattle.std.proofs.Common.{◌≡◌, ◌++◌, take, get_or, List, ap, ◌∙◌}
use Rattle.std.proofs.lemmas.List.{take_more}
use Rattle.q_logic.specs.Prelude.{outer}
use Rattle.q_logic.proofs.Common.{taken-all}
use Rattle.q_judge.proofs.OuterClauses.{collected-more, collected-none, collected-outers}
use Rattle.q_judge.proofs.undo.collect_outers.Goals as goal
use Rattle.q_judge.proofs.undo.collect_outers.Goals.{in-Some+in_ok-push_outer+in_ok-push, in_default}

pub loop-at-preserved : goal.loop-at-preserved
loop-at-preserved c =
    let P = c.args.view.now.prefix in
    let s = c.args.view.now.slots in
    let slots = c.slots_of-slots.result.now in
    let n = get_or slots c.loop-at.at-index 0 in
    let t = take_more slots c.loop-at.at-index 0 c.loop-at-test.true in
    rw t (elim c.match-clause.branch [
      | in-Some+in_ok-push_outer+in_ok-push w ↦
          let D = w.in-Some.clause.now in
          let more : w.push_outer.new.joined.items ≡ outer P c.args.m D = rw w.scope.ensures at w.in_ok-push_outer.ensures ∙ ap (λ (os : List _). os ++ outer P c.args.m D) w.clear.ensures.items in
          rw (w.outers-is, w.in_ok-push.ensures.ok, w.deref.ensures.value, more) (collected-more P s c.args.m (take c.loop-at.at-index slots) c.loop-at.outers n D c.loop-at.invariant w.in-Some.ensures.0)
      | in_default w ↦
          rw w.outers-is (collected-none P s c.args.m (take c.loop-at.at-index slots) c.loop-at.outers n c.loop-at.invariant w.in_default.ensures)
    ])

pub returns : goal.returns
returns c =
    let slots = c.slots_of-slots.result.now in
    let v = rw (taken-all slots c.loop-at.at-index c.loop-at-test.false) at c.loop-at.invariant in
    collected-outers c.args.view.now.prefix c.args.view.now.slots c.args.m slots c.loop-at.outers c.slots_of-slots.ensures v
