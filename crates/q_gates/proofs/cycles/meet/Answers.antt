use Rattle.std.proofs.Common.{◌≡◌, ◌+◌, length, ap, ◌∙◌, arith}
use Rattle.std.proofs.lemmas.List.{length_push}
use Rattle.q_gates.specs.Gates.{gates_view}
use Rattle.q_gates.proofs.GateWalk.{unmarked-set}
use Rattle.q_gates.proofs.SearchSteps.{spread-mark}
use Rattle.q_gates.proofs.cycles.meet.Goals as goal

pub returns-in_ok-push-clause-spread : goal.returns-in_ok-push-clause-spread
returns-in_ok-push-clause-spread c =
    let u = c.requires.uses c.in-Some.h c.in-Some.is in
    spread-mark (gates_view c.args._parts.now) c.args._start c.args.marks.now c.args.stack.now.items c.push.new.self.items c.args._g c.in-Some.h c.requires.spread c.requires.from u.0 u.1 c.in_ok-push.ensures.items

pub returns-in_ok-push-clause-less : goal.returns-in_ok-push-clause-less
returns-in_ok-push-clause-less c =
    let u = c.requires.uses c.in-Some.h c.in-Some.is in
    let lt = u.1 in
    let r : length c.args.marks.now ≡ length (gates_view c.args._parts.now) = c.requires.spread.room in
    let m = unmarked-set c.args.marks.now c.in-Some.h (omega arith) c.if-not-marks-h.true in
    let l : length c.push.new.self.items ≡ length c.args.stack.now.items + 1 = ap length c.in_ok-push.ensures.items ∙ length_push c.args.stack.now.items c.in-Some.h in
    omega arith
