use Rattle.std.proofs.Common.{take, get_or}
use Rattle.std.proofs.lemmas.List.{take_more}
use Rattle.q_judge.proofs.PivotOuters.{gathered-next}
use Rattle.q_judge.proofs.pivots.gather_outers.Goals as goal

pub loop-at-preserved : goal.loop-at-preserved
loop-at-preserved c =
    let slots = c.args.slots.now in
    let i = c.loop-at.at-index in
    rw (take_more slots i 0 c.loop-at-test.true) (gathered-next c.args.view.now.prefix c.args.view.now.slots c.args.question.now (take i slots) (get_or slots i 0) c.loop-at.outers.tails c.gather_outer.new.outers.tails c.loop-at.invariant c.in_ok-gather_outer.ensures)
